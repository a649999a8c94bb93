-- The checkpoint of packed states that fit is read as they are, and what is read is the checkpoint of what it is read as.
use Rattle.std.specs.Prelude.{All}
use Rattle.std.specs.Str.{bytes_eq}
use Rattle.std.proofs.Common.{◌≡◌, ℕ, ◌+◌, ◌*◌, ◌<◌, ◌≤◌, false, List, [], ◌∷◌, ◌++◌, length, drop, take, get_or, Option, Some, None, refl, sym, ap, ap₂, subst, ◌∙◌, arith, append_assoc}
use Rattle.std.proofs.lemmas.List.{drop_at, length-append}
use Rattle.std.proofs.lemmas.List.Elements.{All-head, All-tail}
use Rattle.glass_edges.proofs.FirstRefusals.{or-none, unless-ok}
use Rattle.glass_edges.proofs.NumberBytes.{IsBytes}
use Rattle.kept_states.specs.Levels.{level_encoding, stands_encoding, level_len, level_banks_refusal, level_banks_in, stands_at, IsLevelCheckpoint}
use Rattle.plane_sweep.specs.Packed.{part}
use Rattle.plane_sweep.specs.declared.stand.Stand.{Stand}
use Rattle.quenched_states.specs.KeptTests.{are_kept}
use Rattle.quenched_states.specs.KeptBytes.{kept_kind}
use Rattle.run_checkpoint.specs.BankDecoding.{banks_form, banks_refusal, banks_refused, banks_in, banks_decoded, epochs_refused, first_epoch, other_banks, AreEncoded}
use Rattle.run_checkpoint.specs.BankEncoding.{banks_kind, banks_header, banks_bytes, banks_encoding, banks_parts, bank_len, banks_len, AreBanks, BanksFit, HaveOneShape}
use Rattle.run_checkpoint.specs.Decoding.{level_layout, level_refusal, IsEncoded}
use Rattle.run_checkpoint.specs.Encoding.{encoding}
use Rattle.run_checkpoint.specs.Kinds.{level_kind, sealed}
use Rattle.run_checkpoint.specs.Lengths.{encoding_len}
use Rattle.run_checkpoint.specs.Reading.{stand_in}
use Rattle.run_checkpoint.specs.Tests.{short, other_kind, other_length, damaged, form_refusal}
use Rattle.run_checkpoint.proofs.BankClauses.{length-banks_header, none-encoded, states-read}
use Rattle.run_checkpoint.proofs.BankForm.{banks_packed, Lens, banks-again, banks-long}
use Rattle.run_checkpoint.proofs.BankSteps.{shape-at, shape-len}
use Rattle.run_checkpoint.proofs.Forms.{length-sealed}
use Rattle.run_checkpoint.proofs.LevelClauses.{none-is, packed-none}
use Rattle.run_checkpoint.proofs.LevelForm.{encoding-packed, length-packed, packed_body, stand-again}
use Rattle.run_checkpoint.proofs.Tested.{kind-is}
use Rattle.scalar_rule.specs.Plan.{Plan, slots_of, IsLawfulPlan}
use Rattle.sha2.specs.Sha256.{sha256}

-- ---- packed states of several banks

lens-of : (plans : List Plan) → HaveOneShape plans → 0 < length plans → Lens (bank_len plans) plans
lens-of plans shape some = λ k d within.
    let both = shape-at shape.size shape.slots plans k d shape.shape within in
    ap (λ l. encoding_len l (slots_of (get_or plans k d))) both.0 ∙ ap (encoding_len shape.size) both.1 ∙ sym (shape-len shape.size shape.slots plans shape.shape some)

parts-packed : (epoch : ℕ) (plans : List Plan) (stands : List Stand) → All IsLawfulPlan plans → BanksFit epoch plans stands → banks_bytes plans (banks_parts plans stands) ≡ banks_packed plans stands
unfolding BanksFit banks_bytes banks_parts banks_packed
parts-packed epoch [] [] lawful fit = refl
parts-packed epoch [] (stand ∷ stands) lawful fit = absurd fit
parts-packed epoch (plan ∷ plans) [] lawful fit = absurd fit
parts-packed epoch (plan ∷ plans) (stand ∷ stands) lawful fit =
    ap₂ (λ (a b : List ℕ). a ++ b) (encoding-packed plan stand (All-head IsLawfulPlan plan plans lawful) fit.0)
    (parts-packed epoch plans stands (All-tail IsLawfulPlan plan plans lawful) fit.2)

parts-states : (epoch : ℕ) (plans : List Plan) (stands : List Stand) → BanksFit epoch plans stands → AreBanks epoch plans (banks_parts plans stands)
unfolding BanksFit AreBanks banks_parts part
parts-states epoch [] [] fit = tt
parts-states epoch [] (stand ∷ stands) fit = absurd fit
parts-states epoch (plan ∷ plans) [] fit = absurd fit
parts-states epoch (plan ∷ plans) (stand ∷ stands) fit =
    (record { stand = stand; fits = fit.0; stands = λ b small. refl }, fit.1, parts-states epoch plans stands fit.2)

pub stands-epoch : (epoch : ℕ) (plans : List Plan) (stands : List Stand) → 1 ≤ length plans → BanksFit epoch plans stands → stands_at stands ≡ epoch
unfolding BanksFit stands_at
stands-epoch epoch [] stands some fit = absurd (omega arith)
stands-epoch epoch (plan ∷ plans) [] some fit = absurd fit
stands-epoch epoch (plan ∷ plans) (stand ∷ stands) some fit = fit.1

-- ---- they are read

-- what is read of their checkpoint
pub record IsReadAgain (plans : List Plan) (until : ℕ) (stands : List Stand) (bytes : List ℕ) : Type 0 where
  pub none : None ≡ level_banks_refusal plans until bytes
  pub same : level_banks_in plans bytes ≡ stands
  pub len : length bytes ≡ level_len plans

module _ (plans : List Plan) (epoch until : ℕ) (stands : List Stand) (some : 0 < length plans) (few : length plans ≤ 4) (lawful : All IsLawfulPlan plans) (shape : HaveOneShape plans)
    (fit : BanksFit epoch plans stands) (le : epoch ≤ until) where
  many-none : None ≡ banks_refusal plans until (banks_encoding plans (banks_parts plans stands))
  unfolding banks_decoded
  many-none =
      let r = states-read plans epoch until (banks_parts plans stands) some few lawful shape (parts-states epoch plans stands fit) le in
      (unless-ok (banks_refusal plans until (banks_encoding plans (banks_parts plans stands))) _ r.0 r.1).0

  many-same : banks_in (bank_len plans) plans (drop 12 (banks_encoding plans (banks_parts plans stands))) ≡ stands
  unfolding banks_encoding sealed
  many-same =
      let head = banks_header (length plans) in
      let body = banks_bytes plans (banks_parts plans stands) in
      let tail = sha256 (head ++ body) in
      let rest : drop 12 ((head ++ body) ++ tail) ≡ body ++ tail = ap (drop 12) (append_assoc head body tail) ∙ drop_at head (body ++ tail) 12 (length-banks_header (length plans)) in
      ap (banks_in (bank_len plans) plans) (rest ∙ ap (λ x. x ++ tail) (parts-packed epoch plans stands lawful fit))
      ∙ banks-again (bank_len plans) epoch plans stands tail fit (lens-of plans shape some)

  many-len : length (banks_encoding plans (banks_parts plans stands)) ≡ banks_len plans
  unfolding banks_encoding
  many-len =
      let head = banks_header (length plans) in
      let body = banks_bytes plans (banks_parts plans stands) in
      let long = ap length (parts-packed epoch plans stands lawful fit) ∙ banks-long (bank_len plans) epoch plans stands fit (lens-of plans shape some) in
      length-sealed (head ++ body) ∙ omega (arith, length-append head body, length-banks_header (length plans), long)

pub read-again : (plans : List Plan) (epoch until : ℕ) (stands : List Stand) → 0 < length plans → length plans ≤ 4 → All IsLawfulPlan plans → HaveOneShape plans → BanksFit epoch plans stands → epoch ≤ until
    → IsReadAgain plans until stands (stands_encoding plans stands)
unfolding level_banks_refusal level_banks_in level_encoding level_len bank_len banks_parts BanksFit
read-again [] epoch until stands some few lawful shape fit le = absurd (omega arith)
read-again (plan ∷ []) epoch until [] some few lawful shape fit le = absurd fit
read-again (plan ∷ []) epoch until (stand ∷ []) some few lawful shape fit le =
    let law = All-head IsLawfulPlan plan [] lawful in
    let packed = encoding-packed plan stand law fit.0 in
    record {
      none = packed-none plan until stand law fit.0 (omega (arith, fit.1, le)) ∙ ap (level_refusal plan until) (sym packed);
      same = ap (λ (x : List ℕ). stand_in plan x ∷ []) packed ∙ ap (λ (s : Stand). s ∷ []) (stand-again plan stand fit.0);
      len = ap length packed ∙ length-sealed (packed_body plan stand) ∙ length-packed plan stand fit.0;
    }
read-again (plan ∷ []) epoch until (stand ∷ other ∷ stands) some few lawful shape fit le = absurd fit.2
read-again (plan ∷ next ∷ plans) epoch until stands some few lawful shape fit le =
    let all : List Plan = plan ∷ next ∷ plans in
    record {
      none = many-none all epoch until stands some few lawful shape fit le;
      same = many-same all epoch until stands some few lawful shape fit le;
      len = many-len all epoch until stands some few lawful shape fit le;
    }

-- ---- what is read

pub one-checkpoint : (plan : Plan) (until : ℕ) (bytes : List ℕ) (stand : Stand) → IsEncoded plan until bytes stand → IsLevelCheckpoint (plan ∷ []) until bytes (stand ∷ [])
unfolding level_encoding banks_parts stands_at BanksFit
one-checkpoint plan until bytes stand are = record { fit = (are.fits, refl, tt); in_time = are.in_time; bytes_are = are.bytes_are }

pub many-checkpoint : (plans : List Plan) (until : ℕ) (bytes : List ℕ) (stands : List Stand) → 1 ≤ length plans → ¬ (length plans ≡ 1) → AreEncoded plans until bytes stands → IsLevelCheckpoint plans until bytes stands
unfolding level_encoding
many-checkpoint [] until bytes stands some not are = absurd (omega arith)
many-checkpoint (plan ∷ []) until bytes stands some not are = absurd (not refl)
many-checkpoint (plan ∷ next ∷ plans) until bytes stands some not are =
    let all : List Plan = plan ∷ next ∷ plans in
    let at = stands-epoch are.epoch all stands some are.fit in
    record {
      fit = subst (λ e. BanksFit e all stands) (sym at) are.fit;
      in_time = omega (arith, at, are.in_time);
      bytes_are = are.bytes_are;
    }

pub none-checkpoint : (plans : List Plan) (until : ℕ) (bytes : List ℕ) → 1 ≤ length plans → All IsLawfulPlan plans → IsBytes bytes → None ≡ level_banks_refusal plans until bytes
    → IsLevelCheckpoint plans until bytes (level_banks_in plans bytes)
unfolding level_banks_refusal level_banks_in
none-checkpoint [] until bytes some lawful are none = absurd (omega arith)
none-checkpoint (plan ∷ []) until bytes some lawful are none =
    one-checkpoint plan until bytes (stand_in plan bytes) (none-is plan until bytes (All-head IsLawfulPlan plan [] lawful) are none)
none-checkpoint (plan ∷ next ∷ plans) until bytes some lawful are none =
    let all : List Plan = plan ∷ next ∷ plans in
    many-checkpoint all until bytes (banks_in (bank_len all) all (drop 12 bytes)) some (λ one. omega (arith, one)) (none-encoded all until bytes some lawful are none)

-- ---- it has other letters than kept states

other-letters : (kind bytes : List ℕ) → take 8 bytes ≡ kind → bytes_eq kind kept_kind ≡ false → are_kept bytes ≡ false
other-letters kind bytes same not = ap (λ k. bytes_eq k kept_kind) same ∙ not

pub not-kept : (plans : List Plan) (until : ℕ) (bytes : List ℕ) → 1 ≤ length plans → None ≡ level_banks_refusal plans until bytes → are_kept bytes ≡ false
unfolding level_banks_refusal level_refusal form_refusal banks_refusal banks_form
not-kept [] until bytes some none = absurd (omega arith)
not-kept (plan ∷ []) until bytes some none =
    let form = (or-none (form_refusal (level_layout plan) plan bytes) _ none).0 in
    let rest = (or-none (short 88 bytes) _ form).1 in
    other-letters level_kind bytes (kind-is level_kind bytes (or-none (other_kind level_kind bytes) _ rest).0) refl
not-kept (plan ∷ next ∷ plans) until bytes some none =
    let form = (or-none (banks_form (plan ∷ next ∷ plans) bytes) _ none).0 in
    let rest = (or-none (short 44 bytes) _ form).1 in
    other-letters banks_kind bytes (kind-is banks_kind bytes (or-none (other_kind banks_kind bytes) _ rest).0) refl
