-- Two labels make two messages, and so do two blocks of one label.
use Rattle.std.proofs.Common.{◌≡◌, ℕ, ◌^◌, ◌<◌, ◌≤◌, Bool, true, false, cond, ltb, List, [], ◌∷◌, ◌++◌, length, get_or, drop, refl, ap, sym, ◌∙◌, arith}
use Rattle.std.specs.Int.{w32, from_be_bytes}
use Rattle.std.proofs.lemmas.Nat.{from_be_bytes-to_be_bytes_4}
use Rattle.byteorder.specs.Endian.{big_bytes}
use Rattle.spin_model.specs.Seeding.{block_message}
use Rattle.scalar_rule.specs.Plan.{Plan, slots_of, IsLawfulPlan}
use Rattle.run_decisions.specs.Decisions.{Generator, SweepGenerator, ExchangeGenerator, Label, IsGeneratorOf, label_of, message_of, replica_of}
use Rattle.run_decisions.proofs.Epochs.{slot-below}
use Rattle.run_decisions.proofs.Records.{labels-own}

-- ---- parts of a list

parts-told : (xs zs ys ws : List ℕ) → length xs ≡ length zs → xs ++ ys ≡ zs ++ ws → (xs ≡ zs) × (ys ≡ ws)
parts-told [] [] ys ws long same = (refl, same)
parts-told [] (z ∷ zs) ys ws long same = absurd (omega arith)
parts-told (x ∷ xs) [] ys ws long same = absurd (omega arith)
parts-told (x ∷ xs) (z ∷ zs) ys ws long same =
    let head : x ≡ z = ap (λ l. get_or l 0 x) same in
    let rest = parts-told xs zs ys ws (omega arith) (ap (drop 1) same) in
    (ap (λ y. y ∷ xs) head ∙ ap (λ l. z ∷ l) rest.0, rest.1)

word-told : (x y : ℕ) → x < 2 ^ 32 → y < 2 ^ 32 → big_bytes 4 x ≡ big_bytes 4 y → x ≡ y
word-told x y small small_too same = sym (from_be_bytes-to_be_bytes_4 x small) ∙ ap (from_be_bytes w32) same ∙ from_be_bytes-to_be_bytes_4 y small_too

-- ---- labels

record AreWords (x : Label) : Type 0 where
  kinds : x.kind < 2 ^ 32
  first : x.part_a < 2 ^ 32
  second : x.part_b < 2 ^ 32
  third : x.part_c < 2 ^ 32

replica-small : (plan : Plan) (p : ℕ) → replica_of plan p ≤ 1
replica-small plan p = which (ltb p (slots_of plan))
  where
    which : (one : Bool) → cond one 0 1 ≤ 1
    which true = omega arith
    which false = omega arith

label-small : (plan : Plan) (bank : ℕ) (g : Generator) → IsLawfulPlan plan → bank < 2 ^ 32 → IsGeneratorOf plan g → AreWords (label_of plan bank g)
unfolding label_of IsGeneratorOf
label-small plan bank (SweepGenerator p c z) lawful few of =
    let slot = slot-below plan p of.0 in
    let slots = lawful.rules.few in
    let replica = replica-small plan p in
    let colours = of.1 in
    let plane = of.2 in
    let side = lawful.size.1 in
    record { kinds = omega arith; first = omega arith; second = omega arith; third = omega arith }
label-small plan bank (ExchangeGenerator p) lawful few of =
    let slot = slot-below plan p of.0 in
    let slots = lawful.rules.few in
    let replica = replica-small plan p in
    record { kinds = omega arith; first = omega arith; second = omega arith; third = few }

label-same : (x y : Label) → x.kind ≡ y.kind → x.part_a ≡ y.part_a → x.part_b ≡ y.part_b → x.part_c ≡ y.part_c → x ≡ y
label-same x y one two three four =
    ap (λ k. record { kind = k; part_a = x.part_a; part_b = x.part_b; part_c = x.part_c }) one
    ∙ ap (λ a. record { kind = y.kind; part_a = a; part_b = x.part_b; part_c = x.part_c }) two
    ∙ ap (λ b. record { kind = y.kind; part_a = y.part_a; part_b = b; part_c = x.part_c }) three
    ∙ ap (λ c. record { kind = y.kind; part_a = y.part_a; part_b = y.part_b; part_c = c }) four

-- ---- messages

message-told : (seed i j : ℕ) (x y : Label) → AreWords x → AreWords y → i < 2 ^ 32 → j < 2 ^ 32
    → block_message seed x.kind x.part_a x.part_b x.part_c i ≡ block_message seed y.kind y.part_a y.part_b y.part_c j → (x ≡ y) × (i ≡ j)
unfolding block_message
message-told seed i j x y small small_too few few_too same =
    let seeds = parts-told (big_bytes 8 seed) (big_bytes 8 seed) _ _ refl same in
    let kinds = parts-told (big_bytes 4 x.kind) (big_bytes 4 y.kind) _ _ refl seeds.1 in
    let first = parts-told (big_bytes 4 x.part_a) (big_bytes 4 y.part_a) _ _ refl kinds.1 in
    let second = parts-told (big_bytes 4 x.part_b) (big_bytes 4 y.part_b) _ _ refl first.1 in
    let third = parts-told (big_bytes 4 x.part_c) (big_bytes 4 y.part_c) _ _ refl second.1 in (
      label-same x y (word-told x.kind y.kind small.kinds small_too.kinds kinds.0) (word-told x.part_a y.part_a small.first small_too.first first.0)
          (word-told x.part_b y.part_b small.second small_too.second second.0) (word-told x.part_c y.part_c small.third small_too.third third.0),
      word-told i j few few_too third.1,
    )

pub messages-own : (plan : Plan) (bank : ℕ) (g h : Generator) (i j : ℕ) → IsLawfulPlan plan → bank < 2 ^ 32 → IsGeneratorOf plan g → IsGeneratorOf plan h → i < 8 → j < 8
    → message_of plan bank g i ≡ message_of plan bank h j → (g ≡ h) × (i ≡ j)
messages-own plan bank g h i j lawful few of also first other same =
    let told = message-told plan.seed i j (label_of plan bank g) (label_of plan bank h) (label-small plan bank g lawful few of) (label-small plan bank h lawful few also) (omega arith) (omega arith) same in
    (labels-own plan bank g h of also told.0, told.1)
