-- At an error to a question nothing is done; what is no regular file is written as it stands.
use Rattle.std.proofs.Common.{refl}
use Rattle.glass_edges.proofs.SaveParts.{looked}
use Rattle.glass_edges.proofs.placing.place_file.Goals as goal

pub returns-in_err-standing : goal.returns-in_err-standing
returns-in_err-standing g c = looked c.args.name.now c.args.bytes.now _ _ _ _ _ c.from_residual.ensures.0 refl c.in_err-standing.ensures.looks

pub returns-in_err-ask_to_write-in-Regular : goal.returns-in_err-ask_to_write-in-Regular
returns-in_err-ask_to_write-in-Regular g c =
    looked c.args.name.now c.args.bytes.now _ _ _ _ _ c.from_residual-in_err-ask_to_write-in-Regular.ensures.0 c.in_ok-standing.ensures.looks.passed c.in_err-ask_to_write-in-Regular.ensures.looks
