-- Workers and pieces reach no definition of what a run prints and saves.
use Rattle.std.proofs.Common.{◌≡◌, Option, refl, sym, ◌∙◌}
use Rattle.glass_edges.specs.Contents.{Files}
use Rattle.command_words.specs.RunWords.{RunOrder}
use Rattle.command_words.specs.CommandLine.{Run}
use Rattle.glass_main.specs.Request.{request_of}
use Rattle.run_laws.specs.PackingLaws.{ArePackedAlone, PackingChangesNothing, OrdersDontReachCheckpoints}

pub same-request : (one other : RunOrder) (files : Option Files) → ArePackedAlone one other → request_of (Run one) files ≡ request_of (Run other) files
same-request one other files same = rw (same.run, same.until, same.from, same.stop_after) refl

pub packing : PackingChangesNothing
packing = record {
  asked = same-request;
  saved = λ one other same. same.save;
  runs = λ planned from until text bytes other_text other_bytes first second.
      (sym (first.1.0) ∙ second.1.0, sym (first.1.1) ∙ second.1.1);
  banks = λ planned starts until text bytes other_text other_bytes first second.
      (sym (first.1.0) ∙ second.1.0, sym (first.1.1) ∙ second.1.1);
}

pub checkpoints : OrdersDontReachCheckpoints
checkpoints = record {
  runs = λ one other from until same. rw same refl;
  banks = λ one other starts until same. rw same refl;
}
