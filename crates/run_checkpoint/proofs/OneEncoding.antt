-- States that have one encoding are the same, also those at different epochs and those of banks.
use Rattle.std.proofs.Common.{◌≡◌, ℕ, ◌<◌, List, [], ◌∷◌, ◌++◌, All, length, take, drop, refl, sym, ap, ◌∙◌}
use Rattle.std.proofs.lemmas.List.{take_at, drop_at}
use Rattle.std.proofs.lemmas.List.Elements.{All-head, All-tail}
use Rattle.sha2.specs.Sha256.{sha256}
use Rattle.sha2.proofs.Facts256.{length-sha256}
use Rattle.scalar_rule.specs.Plan.{Plan, slots_of, IsLawfulPlan}
use Rattle.scalar_rule.specs.Ragged.{UnevenState}
use Rattle.scalar_rule.specs.declared.sample.Record.{Record}
use Rattle.scalar_rule.specs.declared.sample.Sample.{Sample}
use Rattle.plane_sweep.specs.Uneven.{uneven_part}
use Rattle.plane_sweep.specs.declared.uneven.RaggedStand.{RaggedStand}
use Rattle.run_checkpoint.specs.BankEncoding.{banks_header, banks_bytes, banks_encoding, AreBanks}
use Rattle.run_checkpoint.specs.Encoding.{encoding, AreBankStates, uneven_encoding, AreUnevenStates}
use Rattle.run_checkpoint.specs.Kinds.{sealed}
use Rattle.run_checkpoint.specs.Laws.{AreSameBanks}
use Rattle.run_checkpoint.specs.Lengths.{encoding_len}
use Rattle.run_checkpoint.specs.Reading.{body_of}
use Rattle.run_checkpoint.specs.UnevenDecoding.{uneven_in}
use Rattle.run_checkpoint.proofs.Forms.{tail-at, length-sealed}
use Rattle.run_checkpoint.proofs.LevelClauses.{one-encoding, states-packed}
use Rattle.run_checkpoint.proofs.LevelForm.{packed_body, length-packed}
use Rattle.run_checkpoint.proofs.UnevenClauses.{uneven_states-packed}
use Rattle.run_checkpoint.proofs.UnevenForm.{uneven-again}

pub one-uneven_encoding : (plan : Plan) (samples every : ℕ) (s t : ℕ → UnevenState) (kept other : List Record) → IsLawfulPlan plan
    → AreUnevenStates plan samples every s kept → AreUnevenStates plan samples every t other → uneven_encoding plan samples every s kept ≡ uneven_encoding plan samples every t other
    → ((b : ℕ) → b < 64 → s b ≡ t b) × (kept ≡ other)
one-uneven_encoding plan samples every s t kept other lawful first second same =
    let stands : first.stand ≡ second.stand =
    sym (uneven-again plan samples every first.stand lawful first.fits)
    ∙ ap (uneven_in plan) (sym (uneven_states-packed plan samples every s kept first lawful) ∙ same ∙ uneven_states-packed plan samples every t other second lawful)
    ∙ uneven-again plan samples every second.stand lawful second.fits in (
      λ b small. sym (first.stands b small) ∙ ap (uneven_part plan.size b) stands ∙ second.stands b small,
      sym first.records ∙ ap (λ (r : RaggedStand). r.pending) stands ∙ second.records,
    )

-- ---- banks

-- the bytes before the digest are the same
sealed-one : (a b : List ℕ) → sealed a ≡ sealed b → a ≡ b
unfolding sealed
sealed-one a b e =
    let first = tail-at a (sha256 a) (length-sha256 a) in
    let second = tail-at b (sha256 b) (length-sha256 b) in
    sym first.1 ∙ ap body_of e ∙ second.1

-- two beginnings of one length
parts-one : (a b c d : List ℕ) (n : ℕ) → length a ≡ n → length c ≡ n → a ++ b ≡ c ++ d → (a ≡ c) × (b ≡ d)
parts-one a b c d n long other e = (
  sym (take_at a b n long) ∙ ap (take n) e ∙ take_at c d n other,
  sym (drop_at a b n long) ∙ ap (drop n) e ∙ drop_at c d n other,
)

pub length-encoding : (plan : Plan) (states : ℕ → Sample) → IsLawfulPlan plan → AreBankStates plan states → length (encoding plan states) ≡ encoding_len plan.size (slots_of plan)
length-encoding plan states lawful are =
    ap length (states-packed plan states are lawful) ∙ length-sealed (packed_body plan are.stand) ∙ length-packed plan are.stand are.fits

banks-one : (epoch later : ℕ) (plans : List Plan) (s t : List (ℕ → Sample)) → All IsLawfulPlan plans → AreBanks epoch plans s → AreBanks later plans t → banks_bytes plans s ≡ banks_bytes plans t → AreSameBanks s t
unfolding AreBanks AreSameBanks banks_bytes
banks-one epoch later [] [] [] lawful first second same = tt
banks-one epoch later [] [] (t ∷ others) lawful first second same = absurd second
banks-one epoch later [] (s ∷ more) t lawful first second same = absurd first
banks-one epoch later (plan ∷ plans) [] t lawful first second same = absurd first
banks-one epoch later (plan ∷ plans) (s ∷ more) [] lawful first second same = absurd second
banks-one epoch later (plan ∷ plans) (s ∷ more) (t ∷ others) lawful first second same =
    let law = All-head IsLawfulPlan plan plans lawful in
    let both = parts-one (encoding plan s) (banks_bytes plans more) (encoding plan t) (banks_bytes plans others) (encoding_len plan.size (slots_of plan))
    (length-encoding plan s law first.0) (length-encoding plan t law second.0) same in
    (one-encoding plan s t law first.0 second.0 both.0, banks-one epoch later plans more others (All-tail IsLawfulPlan plan plans lawful) first.2 second.2 both.1)

pub one-banks_encoding : (epoch later : ℕ) (plans : List Plan) (s t : List (ℕ → Sample)) → All IsLawfulPlan plans → AreBanks epoch plans s → AreBanks later plans t → banks_encoding plans s ≡ banks_encoding plans t → AreSameBanks s t
unfolding banks_encoding
one-banks_encoding epoch later plans s t lawful first second same =
    let bodies : banks_header (length plans) ++ banks_bytes plans s ≡ banks_header (length plans) ++ banks_bytes plans t = sealed-one _ _ same in
    let both = parts-one _ (banks_bytes plans s) _ (banks_bytes plans t) (length (banks_header (length plans))) refl refl bodies in
    banks-one epoch later plans s t lawful first second both.1
