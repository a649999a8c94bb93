-- What the tests say of the bytes, and what the bytes say of the couplings.
use Rattle.std.proofs.Common.{◌≡◌, ℕ, ◌+◌, ◌*◌, Some, None, Ok, Err, ap, sym, subst, refl, ◌∙◌, arith}
use Rattle.std.proofs.lemmas.Result.{err_from_is_err_and}
use Rattle.glass_edges.specs.Refusals.{GivesAfterTests}
use Rattle.glass_edges.proofs.FirstRefusals.{gives-after-tests-refusal, gives-after-tests-made, is-found}
use Rattle.spin_model.specs.Couplings.{Bonds}
use Rattle.coupling_set.specs.BondsAsWords.{couplings_with, bank_of}
use Rattle.coupling_set.specs.CouplingWords.{CouplingsView, HasBonds}
use Rattle.coupling_set.specs.CouplingsFile.{couplings_in, file_refusal, of_file}
use Rattle.coupling_set.specs.declared.refused.CouplingsRefused.TheVariants as refused
use Rattle.coupling_set.proofs.BondsAsWords.{couplings_with-same}
use Rattle.coupling_set.proofs.FileLaws.{not-both, refusal-form, form-refusal, form-file, of_file-absent, file-form, file-says}
use Rattle.coupling_set.proofs.couplings.Couplings.read_bank.Goals as goal

-- the couplings are those that the bytes say
made : (couplings : CouplingsView) (l : ℕ) (bonds : ℕ → Bonds) → ((f : ℕ → Bonds) → HasBonds couplings f → couplings ≡ couplings_with couplings.size f)
    → couplings.size ≡ l → HasBonds couplings bonds → couplings ≡ couplings_with l bonds
made couplings l bonds law size has = law bonds has ∙ ap (λ s. couplings_with s bonds) size

pub returns-in-Some-clause-value : goal.returns-in-Some-clause-value
unfolding couplings_in
returns-in-Some-clause-value c =
    let l = c.args.lattice in
    let bytes = c.args.bytes.now in
    let found : Some c.in-Some.refused ≡ file_refusal l bytes = c.in-Some.ensures.value ∙ ap (λ s. file_refusal s bytes) c.size.ensures.value in
    gives-after-tests-refusal {A = CouplingsView} refused.NoMemory (λ couplings. couplings) (Err c.in-Some.refused) c.in-Some.refused (file_refusal l bytes)
    (couplings_with l (bank_of c.args.bank (of_file l bytes))) refl c.in-Some.ensures.named found

pub returns-in-Some-clause-only : goal.returns-in-Some-clause-only
returns-in-Some-clause-only c = λ n bonds is.
    let l = c.args.lattice in
    let bytes = c.args.bytes.now in
    let found : Some c.in-Some.refused ≡ file_refusal l bytes = c.in-Some.ensures.value ∙ ap (λ s. file_refusal s bytes) c.size.ensures.value in
    absurd (not-both c.in-Some.refused (file_refusal l bytes) found (form-refusal l bytes (file-form l n bonds bytes c.size.ensures.lawful is)))

pub returns-in_err-couplings-clause-value : goal.returns-in_err-couplings-clause-value
unfolding couplings_in
returns-in_err-couplings-clause-value c =
    let l = c.args.lattice in
    let bytes = c.args.bytes.now in
    let none : None ≡ file_refusal l bytes = c.in_default.ensures.value ∙ ap (λ s. file_refusal s bytes) c.size.ensures.value in
    let p = err_from_is_err_and c.from_residual.result c.from_residual.ensures.1 in
    subst (λ r. GivesAfterTests refused.NoMemory (λ couplings. couplings) r (couplings_in l c.args.bank bytes)) (sym p.1)
    (gives-after-tests-made {A = CouplingsView} refused.NoMemory (λ couplings. couplings) (Err p.0) (file_refusal l bytes)
    (couplings_with l (bank_of c.args.bank (of_file l bytes))) none tt p.2)

pub returns-clause-value : goal.returns-clause-value
unfolding couplings_in
returns-clause-value c =
    let l = c.args.lattice in
    let bytes = c.args.bytes.now in
    let none : None ≡ file_refusal l bytes = c.in_default.ensures.value ∙ ap (λ s. file_refusal s bytes) c.size.ensures.value in
    is-found (file_refusal l bytes) (couplings_with l (bank_of c.args.bank (of_file l bytes))) c.in_ok-couplings.couplings none
    (sym (made c.in_ok-couplings.couplings l (bank_of c.args.bank (of_file l bytes)) c.couplings_are_their_bonds.ensures c.in_ok-couplings.ensures.size c.in_ok-couplings.ensures.bonds))

pub returns-clause-found : goal.returns-clause-found
returns-clause-found c =
    let l = c.args.lattice in
    let bytes = c.args.bytes.now in
    let none : None ≡ file_refusal l bytes = c.in_default.ensures.value ∙ ap (λ s. file_refusal s bytes) c.size.ensures.value in
    let form = refusal-form l bytes none in
    record {
      lawful = c.size.ensures.lawful;
      some = form.some;
      few = form.few;
      same = form-file l bytes c.size.ensures.lawful (λ i. omega (arith, c.type_inv.bytes i)) form;
      others = λ b m absent. of_file-absent l bytes b m absent;
    }

pub returns-clause-only : goal.returns-clause-only
returns-clause-only c = λ n bonds is.
    let l = c.args.lattice in
    let bytes = c.args.bytes.now in
    let bank = c.args.bank in
    let lawful = c.size.ensures.lawful in
    ap Ok (sym (made c.in_ok-couplings.couplings l (bank_of bank (of_file l bytes)) c.couplings_are_their_bonds.ensures c.in_ok-couplings.ensures.size c.in_ok-couplings.ensures.bonds
    ∙ couplings_with-same l (bank_of bank (of_file l bytes)) (bank_of bank bonds) lawful
    (λ m k small within. file-says l n bonds bytes lawful is (64 * bank + m) k within)))
