use Rattle.typing.proofs.typing_stands.Goals as goal
use Rattle.typing.proofs.Bodies.{bodies_decided}
use Rattle.typing.proofs.Whole.{programs_decided, bytes_decided, encodings_decided}

pub returns : goal.returns
returns c = record { bodies = bodies_decided; programs = programs_decided; bytes = bytes_decided; encodings = encodings_decided }
