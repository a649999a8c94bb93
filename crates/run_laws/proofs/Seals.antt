-- What bytes that are read say of their seal and of their plan.
use Rattle.std.proofs.Common.{◌≡◌, ℕ, Bool, true, false, cond, List, length, None, sym, ◌∙◌}
use Rattle.sha2.specs.Sha256.{sha256}
use Rattle.glass_edges.proofs.FirstRefusals.{or-none}
use Rattle.scalar_rule.specs.Plan.{Plan}
use Rattle.run_plan.specs.CanonicalPlan.{canonical}
use Rattle.run_checkpoint.specs.BankDecoding.{other_banks, banks_form, banks_refusal}
use Rattle.run_checkpoint.specs.BankEncoding.{banks_kind, banks_len}
use Rattle.run_checkpoint.specs.Tests.{short, other_kind, other_length, damaged}
use Rattle.run_checkpoint.specs.Decoding.{level_layout, level_refusal}
use Rattle.run_checkpoint.specs.Reading.{piece, body_of, digest_of}
use Rattle.run_checkpoint.specs.UnevenDecoding.{uneven_layout, uneven_refusal, is_uneven, any_refusal}
use Rattle.run_checkpoint.proofs.Tested.{form-is, digest-is}
use Rattle.run_laws.specs.SealLaws.{AreRead, AreReadByBanks, ChangedBytesAreRefused, OtherPlansAreRefused}

-- the seal is that of what stands before it, and the plan's digest stands behind the letters
record Sealed (plan : Plan) (bytes : List ℕ) : Type 0 where
  digest : digest_of bytes ≡ sha256 (body_of bytes)
  own_plan : piece 8 32 bytes ≡ sha256 (canonical plan)

level-sealed : (plan : Plan) (until : ℕ) (bytes : List ℕ) → None ≡ level_refusal plan until bytes → Sealed plan bytes
unfolding level_refusal
level-sealed plan until bytes none =
    let form = form-is (level_layout plan) plan bytes (or-none _ _ none).0 in
    record { digest = form.digest; own_plan = form.own_plan }

uneven-sealed : (plan : Plan) (samples every until : ℕ) (bytes : List ℕ) → None ≡ uneven_refusal plan samples every until bytes → Sealed plan bytes
unfolding uneven_refusal
uneven-sealed plan samples every until bytes none =
    let form = form-is (uneven_layout plan bytes) plan bytes (or-none _ _ none).0 in
    record { digest = form.digest; own_plan = form.own_plan }

by-kind : (b : Bool) (plan : Plan) (samples every until : ℕ) (bytes : List ℕ)
    → None ≡ cond b (uneven_refusal plan samples every until bytes) (level_refusal plan until bytes) → Sealed plan bytes
by-kind true plan samples every until bytes none = uneven-sealed plan samples every until bytes none
by-kind false plan samples every until bytes none = level-sealed plan until bytes none

any-sealed : (plan : Plan) (samples every until : ℕ) (bytes : List ℕ) → AreRead plan samples every until bytes → Sealed plan bytes
unfolding any_refusal
any-sealed plan samples every until bytes read = by-kind (is_uneven bytes) plan samples every until bytes (or-none _ _ (sym read)).1

form-sealed : (plans : List Plan) (bytes : List ℕ) → None ≡ banks_form plans bytes → digest_of bytes ≡ sha256 (body_of bytes)
unfolding banks_form
form-sealed plans bytes none =
    let long = or-none (short 44 bytes) _ none in
    let kind = or-none (other_kind banks_kind bytes) _ long.1 in
    let count = or-none (other_banks (length plans) bytes) _ kind.1 in
    let len = or-none (other_length (banks_len plans) bytes) (damaged bytes) count.1 in
    digest-is bytes len.1

banks-sealed : (plans : List Plan) (until : ℕ) (bytes : List ℕ) → AreReadByBanks plans until bytes → digest_of bytes ≡ sha256 (body_of bytes)
unfolding banks_refusal
banks-sealed plans until bytes read =
    let none : None ≡ banks_refusal plans until bytes = sym read in
    form-sealed plans bytes (or-none (banks_form plans bytes) _ none).0

pub changed-refused : ChangedBytesAreRefused
changed-refused = record {
  runs = λ plan samples every until bytes changed read same again.
      let first = any-sealed plan samples every until bytes read in
      let second = any-sealed plan samples every until changed again in
      sym second.digest ∙ same ∙ first.digest;
  banks = λ plans until bytes changed read same again.
      sym (banks-sealed plans until changed again) ∙ same ∙ banks-sealed plans until bytes read;
}

pub others-refused : OtherPlansAreRefused
others-refused plan other samples every until other_samples other_every other_until bytes read again =
    let first = any-sealed plan samples every until bytes read in
    let second = any-sealed other other_samples other_every other_until bytes again in
    sym second.own_plan ∙ first.own_plan
