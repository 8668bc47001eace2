use Rattle.std.proofs.Common.{◌-◌, length}
use Rattle.checker.proofs.walks.Walk.+body.Given as goal

abbrev pub decreases-body : goal.decreases-body
decreases-body l = length l.self.now.window.bytes.now - l.place
