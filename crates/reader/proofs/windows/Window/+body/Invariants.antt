use Rattle.std.proofs.Common.{◌-◌, length}
use Rattle.reader.proofs.windows.Window.+body.Given as goal

abbrev pub decreases-body : goal.decreases-body
decreases-body l = length l.self.now.bytes.now - l.place
