-- Couplings that have the bits of a file are that file again.
use Rattle.std.proofs.Common.{◌≡◌, ℕ, ◌+◌, ◌*◌, ◌≤◌, List, Result, Ok, Err, ap, sym, ◌∙◌, arith}
use Rattle.std.specs.Prelude.{IfOk}
use Rattle.coupling_set.specs.BondsAsWords.{bank_of}
use Rattle.coupling_set.specs.CouplingWords.{CouplingsView, HasBonds, bonds_of}
use Rattle.coupling_set.specs.CouplingsFile.{file_bytes, of_file, samples_in, written, IsFileOf}
use Rattle.coupling_set.specs.declared.refused.CouplingsRefused.{CouplingsRefused}
use Rattle.coupling_set.proofs.FileLaws.{file_bytes-same}
use Rattle.coupling_set.proofs.couplings.Couplings.read.Goals as goal

again : (r : Result CouplingsView CouplingsRefused) (l : ℕ) (bytes : List ℕ) → IfOk r (λ couplings. couplings.size ≡ l)
    → IfOk r (λ couplings. HasBonds couplings (bank_of 0 (of_file l bytes))) → IfOk r (λ couplings. IsFileOf l (samples_in bytes) (of_file l bytes) bytes)
    → IfOk r (λ couplings. samples_in bytes ≤ 64 → written couplings (samples_in bytes) ≡ bytes)
again (Err e) l bytes size bonds found = tt
again (Ok couplings) l bytes size bonds found = λ few.
    let first : (b : ℕ) → 64 * 0 + b ≡ b = λ b. omega arith in
    ap (λ s. file_bytes s (samples_in bytes) (bonds_of couplings)) size
    ∙ file_bytes-same l (samples_in bytes) (bonds_of couplings) (of_file l bytes) found.lawful
    (λ b m small within. bonds b m (omega arith) (rw size within) ∙ ap (λ s. of_file l bytes s m) (first b))
    ∙ sym found.same

pub returns-clause-again : goal.returns-clause-again
returns-clause-again c = again c.read_bank.result c.args.lattice c.args.bytes.now c.read_bank.ensures.size c.read_bank.ensures.bonds c.read_bank.ensures.found
