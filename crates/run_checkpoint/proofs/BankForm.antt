-- The checkpoints of banks one after the other, in both directions.
use Rattle.std.proofs.Common.{◌≡◌, ℕ, zero, suc, ◌+◌, ◌*◌, ◌<◌, ◌≤◌, List, [], ◌∷◌, ◌++◌, All, length, take, drop, Some, None, refl, sym, ap, ◌∙◌, arith, append_assoc, take-add}
use Rattle.std.specs.Prelude.{◌==◌}
use Rattle.std.proofs.lemmas.Bool.{eqb-true, eq-eqb}
use Rattle.std.proofs.lemmas.List.{take_at, drop_at, length-append, length-drop}
use Rattle.std.proofs.lemmas.List.Elements.{All-head, All-tail}
use native.Mathlib.Nat.{mul-suc, mul-zero}
use Rattle.scalar_rule.specs.Plan.{Plan, slots_of, IsLawfulPlan}
use Rattle.scalar_rule.specs.declared.sample.Sample.{Sample}
use Rattle.plane_sweep.specs.Packed.{StandFits}
use Rattle.plane_sweep.specs.declared.stand.Stand.{Stand}
use Rattle.run_checkpoint.specs.BankDecoding.{banks_refused, other_epoch, epochs_refused, banks_in, first_epoch}
use Rattle.run_checkpoint.specs.BankEncoding.{banks_bytes, banks_parts, AreBanks, BanksStand, BanksFit}
use Rattle.run_checkpoint.specs.Decoding.{level_refusal}
use Rattle.run_checkpoint.specs.Kinds.{sealed}
use Rattle.run_checkpoint.specs.Lengths.{encoding_len}
use Rattle.run_checkpoint.specs.Reading.{piece, number_at, stand_in}
use Rattle.run_checkpoint.specs.declared.refused.CheckpointRefused.TheVariants as refused
use Rattle.run_checkpoint.proofs.Forms.{length-sealed}
use Rattle.run_checkpoint.proofs.LevelClauses.{none-is, packed-none, states-packed, states-epoch, level-tells}
use Rattle.run_checkpoint.proofs.LevelForm.{packed_body, stand-again, length-packed}
use Rattle.run_checkpoint.proofs.Tested.{Tells, tells-or, tells-if}
use Rattle.glass_edges.proofs.FirstRefusals.{if-none, or-later, or-none}
use Rattle.glass_edges.proofs.NumberBytes.{IsBytes, bytes-drop, bytes-take, join}

-- the checkpoints of packed states one after the other
unfoldable pub banks_packed : List Plan → List Stand → List ℕ
banks_packed [] stands = []
banks_packed (plan ∷ plans) [] = []
banks_packed (plan ∷ plans) (stand ∷ stands) = sealed (packed_body plan stand) ++ banks_packed plans stands

-- ---- the first of them, and those behind it

length-one : (plan : Plan) (stand : Stand) (len : ℕ) → StandFits plan stand → encoding_len plan.size (slots_of plan) ≡ len → length (sealed (packed_body plan stand)) ≡ len
length-one plan stand len fits is = length-sealed (packed_body plan stand) ∙ length-packed plan stand fits ∙ is

first-piece : (one rest tail : List ℕ) (len : ℕ) → length one ≡ len → piece 0 len ((one ++ rest) ++ tail) ≡ one
first-piece one rest tail len long = ap (take len) (append_assoc one rest tail) ∙ take_at one (rest ++ tail) len long

rest-pieces : (one rest tail : List ℕ) (len : ℕ) → length one ≡ len → drop len ((one ++ rest) ++ tail) ≡ rest ++ tail
rest-pieces one rest tail len long = ap (drop len) (append_assoc one rest tail) ∙ drop_at one (rest ++ tail) len long

module _ (len : ℕ) where
  abbrev pub Lens : List Plan → Type 0
  Lens plans = All (λ (plan : Plan). encoding_len plan.size (slots_of plan) ≡ len) plans

  lens-head : (plan : Plan) (plans : List Plan) → Lens (plan ∷ plans) → encoding_len plan.size (slots_of plan) ≡ len
  lens-head plan plans lens = All-head (λ (p : Plan). encoding_len p.size (slots_of p) ≡ len) plan plans lens

  lens-tail : (plan : Plan) (plans : List Plan) → Lens (plan ∷ plans) → Lens plans
  lens-tail plan plans lens = All-tail (λ (p : Plan). encoding_len p.size (slots_of p) ≡ len) plan plans lens

  pub banks-long : (epoch : ℕ) (plans : List Plan) (stands : List Stand) → BanksFit epoch plans stands → Lens plans → length (banks_packed plans stands) ≡ len * length plans
  unfolding BanksFit banks_packed
  banks-long epoch [] [] fit lens = sym (mul-zero len)
  banks-long epoch [] (stand ∷ stands) fit lens = absurd fit
  banks-long epoch (plan ∷ plans) [] fit lens = absurd fit
  banks-long epoch (plan ∷ plans) (stand ∷ stands) fit lens =
      length-append (sealed (packed_body plan stand)) (banks_packed plans stands)
      ∙ omega (arith, length-one plan stand len fit.0 (lens-head plan plans lens), banks-long epoch plans stands fit.2 (lens-tail plan plans lens), mul-suc len (length plans))

  pub banks-again : (epoch : ℕ) (plans : List Plan) (stands : List Stand) (tail : List ℕ) → BanksFit epoch plans stands → Lens plans → banks_in len plans (banks_packed plans stands ++ tail) ≡ stands
  unfolding BanksFit banks_packed banks_in
  banks-again epoch [] [] tail fit lens = refl
  banks-again epoch [] (stand ∷ stands) tail fit lens = absurd fit
  banks-again epoch (plan ∷ plans) [] tail fit lens = absurd fit
  banks-again epoch (plan ∷ plans) (stand ∷ stands) tail fit lens =
      let one = sealed (packed_body plan stand) in
      let rest = banks_packed plans stands in
      let long = length-one plan stand len fit.0 (lens-head plan plans lens) in
      ap (λ x. stand_in plan x ∷ banks_in len plans (drop len ((one ++ rest) ++ tail))) (first-piece one rest tail len long)
      ∙ ap (λ s. s ∷ banks_in len plans (drop len ((one ++ rest) ++ tail))) (stand-again plan stand fit.0)
      ∙ ap (λ x. stand ∷ banks_in len plans x) (rest-pieces one rest tail len long)
      ∙ ap (λ ss. stand ∷ ss) (banks-again epoch plans stands tail fit.2 (lens-tail plan plans lens))

  pub banks-pass : (epoch until : ℕ) (plans : List Plan) (stands : List Stand) (tail : List ℕ) → All IsLawfulPlan plans → BanksFit epoch plans stands → Lens plans → epoch ≤ until
      → None ≡ banks_refused len until plans (banks_packed plans stands ++ tail)
  unfolding BanksFit banks_packed banks_refused
  banks-pass epoch until [] [] tail lawful fit lens le = refl
  banks-pass epoch until [] (stand ∷ stands) tail lawful fit lens le = absurd fit
  banks-pass epoch until (plan ∷ plans) [] tail lawful fit lens le = absurd fit
  banks-pass epoch until (plan ∷ plans) (stand ∷ stands) tail lawful fit lens le =
      let one = sealed (packed_body plan stand) in
      let rest = banks_packed plans stands in
      let long = length-one plan stand len fit.0 (lens-head plan plans lens) in
      let first : None ≡ level_refusal plan until (piece 0 len ((one ++ rest) ++ tail)) =
      packed-none plan until stand (All-head IsLawfulPlan plan plans lawful) fit.0 (omega (arith, fit.1, le)) ∙ ap (level_refusal plan until) (sym (first-piece one rest tail len long)) in
      or-later _ _ None first
      (banks-pass epoch until plans stands tail (All-tail IsLawfulPlan plan plans lawful) fit.2 (lens-tail plan plans lens) le
      ∙ ap (banks_refused len until plans) (sym (rest-pieces one rest tail len long)))

  own-epoch : (plan : Plan) (bytes : List ℕ) → (stand_in plan bytes).epoch ≡ number_at 8 40 bytes
  unfolding stand_in
  own-epoch plan bytes = refl

  stored-epoch : (plan : Plan) (stand : Stand) (rest tail : List ℕ) → StandFits plan stand → encoding_len plan.size (slots_of plan) ≡ len → number_at 8 40 (piece 0 len ((sealed (packed_body plan stand) ++ rest) ++ tail)) ≡ stand.epoch
  stored-epoch plan stand rest tail fits is =
      let one = sealed (packed_body plan stand) in
      ap (number_at 8 40) (first-piece one rest tail len (length-one plan stand len fits is))
      ∙ sym (own-epoch plan one) ∙ ap (λ (s : Stand). s.epoch) (stand-again plan stand fits)

  pub first-stored : (epoch : ℕ) (plans : List Plan) (stands : List Stand) (tail : List ℕ) → 0 < length plans → BanksFit epoch plans stands → Lens plans → first_epoch len (banks_packed plans stands ++ tail) ≡ epoch
  unfolding BanksFit banks_packed
  first-stored epoch [] stands tail some fit lens = absurd (omega arith)
  first-stored epoch (plan ∷ plans) [] tail some fit lens = absurd fit
  first-stored epoch (plan ∷ plans) (stand ∷ stands) tail some fit lens = stored-epoch plan stand (banks_packed plans stands) tail fit.0 (lens-head plan plans lens) ∙ fit.1

  epoch-right : (first g : ℕ) (bytes : List ℕ) → number_at 8 40 (piece 0 len bytes) ≡ first → None ≡ other_epoch first g len bytes
  unfolding other_epoch
  epoch-right first g bytes e = rw (eq-eqb (number_at 8 40 (piece 0 len bytes)) first e) refl

  epoch-is : (first g : ℕ) (bytes : List ℕ) → None ≡ other_epoch first g len bytes → number_at 8 40 (piece 0 len bytes) ≡ first
  unfolding other_epoch
  epoch-is first g bytes e = eqb-true _ _ (if-none _ None _ e).0

  pub epochs-pass : (epoch g : ℕ) (plans : List Plan) (stands : List Stand) (tail : List ℕ) → BanksFit epoch plans stands → Lens plans → None ≡ epochs_refused len epoch g (length plans) (banks_packed plans stands ++ tail)
  unfolding BanksFit banks_packed epochs_refused
  epochs-pass epoch g [] [] tail fit lens = refl
  epochs-pass epoch g [] (stand ∷ stands) tail fit lens = absurd fit
  epochs-pass epoch g (plan ∷ plans) [] tail fit lens = absurd fit
  epochs-pass epoch g (plan ∷ plans) (stand ∷ stands) tail fit lens =
      let one = sealed (packed_body plan stand) in
      let rest = banks_packed plans stands in
      let is = lens-head plan plans lens in
      or-later _ _ None (epoch-right epoch g _ (stored-epoch plan stand rest tail fit.0 is ∙ fit.1))
      (epochs-pass epoch (g + 1) plans stands tail fit.2 (lens-tail plan plans lens)
      ∙ ap (epochs_refused len epoch (g + 1) (length plans)) (sym (rest-pieces one rest tail len (length-one plan stand len fit.0 is))))

  -- ---- what was read

  pub banks-back : (until : ℕ) (plans : List Plan) (bytes : List ℕ) → All IsLawfulPlan plans → IsBytes bytes → len * length plans ≤ length bytes → None ≡ banks_refused len until plans bytes
      → banks_bytes plans (banks_parts plans (banks_in len plans bytes)) ≡ take (len * length plans) bytes
  unfolding banks_refused banks_in banks_parts banks_bytes
  banks-back until [] bytes lawful are long none = sym (ap (λ k. take k bytes) (mul-zero len))
  banks-back until (plan ∷ plans) bytes lawful are long none =
      let step : len * suc (length plans) ≡ len + len * length plans = omega (arith, mul-suc len (length plans)) in
      let both = or-none (level_refusal plan until (piece 0 len bytes)) _ none in
      let first = none-is plan until (piece 0 len bytes) (All-head IsLawfulPlan plan plans lawful) (bytes-take len bytes are) both.0 in
      let rest = banks-back until plans (drop len bytes) (All-tail IsLawfulPlan plan plans lawful) (bytes-drop len bytes are) (omega (arith, step, length-drop len bytes)) both.1 in
      join _ _ _ _ (sym first.bytes_are) rest ∙ sym (take-add len (len * length plans) bytes) ∙ ap (λ k. take k bytes) (sym step)

  pub banks-fit : (until first g : ℕ) (plans : List Plan) (bytes : List ℕ) → All IsLawfulPlan plans → IsBytes bytes → None ≡ banks_refused len until plans bytes → None ≡ epochs_refused len first g (length plans) bytes
      → BanksFit first plans (banks_in len plans bytes)
  unfolding banks_refused epochs_refused banks_in BanksFit
  banks-fit until first g [] bytes lawful are none same = tt
  banks-fit until first g (plan ∷ plans) bytes lawful are none same =
      let both = or-none (level_refusal plan until (piece 0 len bytes)) _ none in
      let epochs = or-none (other_epoch first g len bytes) _ same in
      let one = none-is plan until (piece 0 len bytes) (All-head IsLawfulPlan plan plans lawful) (bytes-take len bytes are) both.0 in
      (one.fits, own-epoch plan (piece 0 len bytes) ∙ epoch-is first g bytes epochs.0, banks-fit until first (g + 1) plans (drop len bytes) (All-tail IsLawfulPlan plan plans lawful) (bytes-drop len bytes are) both.1 epochs.1)

  pub first-in_time : (until : ℕ) (plans : List Plan) (bytes : List ℕ) → 0 < length plans → All IsLawfulPlan plans → IsBytes bytes → None ≡ banks_refused len until plans bytes → first_epoch len bytes ≤ until
  unfolding banks_refused
  first-in_time until [] bytes some lawful are none = absurd (omega arith)
  first-in_time until (plan ∷ plans) bytes some lawful are none =
      let both = or-none (level_refusal plan until (piece 0 len bytes)) _ none in
      let one = none-is plan until (piece 0 len bytes) (All-head IsLawfulPlan plan plans lawful) (bytes-take len bytes are) both.0 in
      omega (arith, own-epoch plan (piece 0 len bytes), one.in_time)

  -- ---- no test answers that memory ran out

  pub tells-banks : (until : ℕ) (plans : List Plan) (bytes : List ℕ) → Tells (banks_refused len until plans bytes)
  unfolding banks_refused
  tells-banks until [] bytes = tt
  tells-banks until (plan ∷ plans) bytes = tells-or _ _ (level-tells plan until (piece 0 len bytes)) (tells-banks until plans (drop len bytes))

  tells-epoch : (first g : ℕ) (bytes : List ℕ) → Tells (other_epoch first g len bytes)
  unfolding other_epoch
  tells-epoch first g bytes =
      let epoch = number_at 8 40 (piece 0 len bytes) in
      let other : ¬ (refused.BankEpoch g epoch first ≡ refused.NoMemory) = λ e. absurd cc in
      tells-if (epoch == first) None (Some (refused.BankEpoch g epoch first)) tt other

  pub tells-epochs : (first g n : ℕ) (bytes : List ℕ) → Tells (epochs_refused len first g n bytes)
  unfolding epochs_refused
  tells-epochs first g zero bytes = tt
  tells-epochs first g (suc n) bytes = tells-or _ _ (tells-epoch first g bytes) (tells-epochs first (g + 1) n (drop len bytes))

-- ---- states that packed states stand for

pub record Packing (epoch : ℕ) (plans : List Plan) (states : List (ℕ → Sample)) : Type 0 where
  pub stands : List Stand
  pub fit : BanksFit epoch plans stands
  pub stand_for : BanksStand plans states stands
  pub bytes_are : banks_bytes plans states ≡ banks_packed plans stands

pub packing : (epoch : ℕ) (plans : List Plan) (states : List (ℕ → Sample)) → All IsLawfulPlan plans → AreBanks epoch plans states → Packing epoch plans states
unfolding AreBanks BanksFit BanksStand banks_bytes banks_packed
packing epoch [] [] lawful are = record { stands = []; fit = tt; stand_for = tt; bytes_are = refl }
packing epoch [] (s ∷ more) lawful are = absurd are
packing epoch (plan ∷ plans) [] lawful are = absurd are
packing epoch (plan ∷ plans) (s ∷ more) lawful are =
    let rest = packing epoch plans more (All-tail IsLawfulPlan plan plans lawful) are.2 in
    let one = are.0 in
    record {
      stands = one.stand ∷ rest.stands;
      fit = (one.fits, states-epoch plan s one ∙ are.1, rest.fit);
      stand_for = (one.stands, rest.stand_for);
      bytes_are = join _ _ _ _ (states-packed plan s one (All-head IsLawfulPlan plan plans lawful)) rest.bytes_are;
    }
