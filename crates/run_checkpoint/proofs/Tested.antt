-- What each test says, in both directions; and that no test answers that memory ran out.
use Rattle.std.proofs.Common.{◌≡◌, ◌⊎◌, ℕ, zero, suc, ◌+◌, ◌*◌, ◌/◌, ◌%◌, ◌≤◌, Bool, true, false, ◌&&◌, cond, List, length, take, Option, Some, None, refl, arith, inl, inr}
use Rattle.std.specs.Prelude.{◌==◌, nat_lt}
use Rattle.std.specs.Str.{bytes_eq}
use Rattle.std.proofs.lemmas.Bool.{eqb-true, ltb-false, and_parts, eq-eqb}
use Rattle.std.proofs.lemmas.Bool.Decides.{nat_tests}
use Rattle.std.proofs.lemmas.Slice.Eq.{bytes_eq-Decides}
use Rattle.sha2.specs.Sha256.{sha256}
use Rattle.glass_edges.specs.Refusals.{first_of, or_else}
use Rattle.scalar_rule.specs.Plan.{Plan, slots_of}
use Rattle.scalar_rule.specs.declared.sample.PlainSlot.{PlainSlot}
use Rattle.run_plan.specs.CanonicalPlan.{canonical}
use Rattle.run_checkpoint.specs.declared.refused.CheckpointRefused.{CheckpointRefused}
use Rattle.run_checkpoint.specs.declared.refused.CheckpointRefused.TheVariants as refused
use Rattle.run_checkpoint.specs.Reading.{piece, number_at, body_of, digest_of}
use Rattle.run_checkpoint.specs.Tests.{short, other_kind, other_shape, other_length, damaged, other_plan, is_wrong, wrong_at, wrong_label, late, Layout, form_refusal}
use Rattle.glass_edges.proofs.FirstRefusals.{if-none, or-later, or-none}

pub held : (b : Bool) (x : CheckpointRefused) → None ≡ cond b (Some x) None → b ≡ false
held true x e = absurd cc
held false x e = refl

-- ---- both directions

pub long-enough : (least : ℕ) (bytes : List ℕ) → least ≤ length bytes → None ≡ short least bytes
unfolding short
long-enough least bytes le = let h : nat_lt (length bytes) least ≡ false = grind (arith, nat_tests) in rw h refl

pub long-is : (least : ℕ) (bytes : List ℕ) → None ≡ short least bytes → least ≤ length bytes
unfolding short
long-is least bytes e = ltb-false _ _ (held _ _ e)

pub kind-right : (kind bytes : List ℕ) → take 8 bytes ≡ kind → None ≡ other_kind kind bytes
unfolding other_kind
kind-right kind bytes e = rw ((bytes_eq-Decides (take 8 bytes) kind).1 e) refl

pub kind-is : (kind bytes : List ℕ) → None ≡ other_kind kind bytes → take 8 bytes ≡ kind
unfolding other_kind
kind-is kind bytes e = (bytes_eq-Decides (take 8 bytes) kind).0 (if-none _ None _ e).0

pub shape-right : (plan : Plan) (place : ℕ) (bytes : List ℕ) → number_at 4 place bytes ≡ plan.size → number_at 4 (place + 4) bytes ≡ slots_of plan → None ≡ other_shape plan place bytes
unfolding other_shape
shape-right plan place bytes a b = rw (eq-eqb (number_at 4 place bytes) plan.size a, eq-eqb (number_at 4 (place + 4) bytes) (slots_of plan) b) refl

pub shape-is : (plan : Plan) (place : ℕ) (bytes : List ℕ) → None ≡ other_shape plan place bytes → (number_at 4 place bytes ≡ plan.size) × (number_at 4 (place + 4) bytes ≡ slots_of plan)
unfolding other_shape
shape-is plan place bytes e =
    let h = and_parts (number_at 4 place bytes == plan.size) (number_at 4 (place + 4) bytes == slots_of plan) (if-none _ None _ e).0 in
    (eqb-true _ _ h.0, eqb-true _ _ h.1)

pub length-right : (wanted : ℕ) (bytes : List ℕ) → length bytes ≡ wanted → None ≡ other_length wanted bytes
unfolding other_length
length-right wanted bytes e = rw (eq-eqb (length bytes) wanted e) refl

pub length-is : (wanted : ℕ) (bytes : List ℕ) → None ≡ other_length wanted bytes → length bytes ≡ wanted
unfolding other_length
length-is wanted bytes e = eqb-true _ _ (if-none _ None _ e).0

pub digest-right : (bytes : List ℕ) → digest_of bytes ≡ sha256 (body_of bytes) → None ≡ damaged bytes
unfolding damaged
digest-right bytes e = rw ((bytes_eq-Decides (digest_of bytes) (sha256 (body_of bytes))).1 e) refl

pub digest-is : (bytes : List ℕ) → None ≡ damaged bytes → digest_of bytes ≡ sha256 (body_of bytes)
unfolding damaged
digest-is bytes e = (bytes_eq-Decides (digest_of bytes) (sha256 (body_of bytes))).0 (if-none _ None _ e).0

pub plan-right : (plan : Plan) (bytes : List ℕ) → piece 8 32 bytes ≡ sha256 (canonical plan) → None ≡ other_plan plan bytes
unfolding other_plan
plan-right plan bytes e = rw ((bytes_eq-Decides (piece 8 32 bytes) (sha256 (canonical plan))).1 e) refl

pub plan-is : (plan : Plan) (bytes : List ℕ) → None ≡ other_plan plan bytes → piece 8 32 bytes ≡ sha256 (canonical plan)
unfolding other_plan
plan-is plan bytes e = (bytes_eq-Decides (piece 8 32 bytes) (sha256 (canonical plan))).0 (if-none _ None _ e).0

pub late-is : (until epoch : ℕ) → None ≡ late until epoch → epoch ≤ until
unfolding late
late-is until epoch e = ltb-false _ _ (held _ _ e)

pub in-time : (until epoch : ℕ) → epoch ≤ until → None ≡ late until epoch
unfolding late
in-time until epoch le = let h : nat_lt until epoch ≡ false = grind (arith, nat_tests) in rw h refl

-- ---- a test tells another cause than memory

abbrev pub Tells : Option CheckpointRefused → Type 0
Tells None = Unit {0}
Tells (Some e) = ¬ (e ≡ refused.NoMemory)

pub tells-or : (a b : Option CheckpointRefused) → Tells a → Tells b → Tells (or_else a b)
tells-or None b first later = later
tells-or (Some e) b first later = first

pub tells-if : (b : Bool) (x y : Option CheckpointRefused) → Tells x → Tells y → Tells (cond b x y)
tells-if true x y first later = first
tells-if false x y first later = later

pub tells-first : (f : ℕ → Option CheckpointRefused) → ((k : ℕ) → Tells (f k)) → (start count : ℕ) → Tells (first_of f start count)
unfolding first_of
tells-first f each start zero = tt
tells-first f each start (suc count) = tells-or (f start) _ (each start) (tells-first f each (start + 1) count)

pub tells-short : (least : ℕ) (bytes : List ℕ) → Tells (short least bytes)
unfolding short
tells-short least bytes =
    let other : ¬ (refused.Short (length bytes) ≡ refused.NoMemory) = λ e. absurd cc in
    tells-if (nat_lt (length bytes) least) (Some (refused.Short (length bytes))) None other tt

pub tells-kind : (kind bytes : List ℕ) → Tells (other_kind kind bytes)
unfolding other_kind
tells-kind kind bytes =
    let other : ¬ (refused.Magic ≡ refused.NoMemory) = λ e. absurd cc in
    tells-if (bytes_eq (take 8 bytes) kind) None (Some (refused.Magic)) tt other

pub tells-shape : (plan : Plan) (place : ℕ) (bytes : List ℕ) → Tells (other_shape plan place bytes)
unfolding other_shape
tells-shape plan place bytes =
    let other : ¬ (refused.Shape (number_at 4 place bytes) (number_at 4 (place + 4) bytes) ≡ refused.NoMemory) = λ e. absurd cc in
    tells-if (number_at 4 place bytes == plan.size && number_at 4 (place + 4) bytes == slots_of plan) None (Some (refused.Shape (number_at 4 place bytes) (number_at 4 (place + 4) bytes))) tt other

pub tells-length : (wanted : ℕ) (bytes : List ℕ) → Tells (other_length wanted bytes)
unfolding other_length
tells-length wanted bytes =
    let other : ¬ (refused.Length (length bytes) wanted ≡ refused.NoMemory) = λ e. absurd cc in
    tells-if (length bytes == wanted) None (Some (refused.Length (length bytes) wanted)) tt other

pub tells-digest : (bytes : List ℕ) → Tells (damaged bytes)
unfolding damaged
tells-digest bytes =
    let other : ¬ (refused.Digest (digest_of bytes) (sha256 (body_of bytes)) ≡ refused.NoMemory) = λ e. absurd cc in
    tells-if (bytes_eq (digest_of bytes) (sha256 (body_of bytes))) None (Some (refused.Digest (digest_of bytes) (sha256 (body_of bytes)))) tt other

pub tells-plan : (plan : Plan) (bytes : List ℕ) → Tells (other_plan plan bytes)
unfolding other_plan
tells-plan plan bytes =
    let other : ¬ (refused.OtherPlan (piece 8 32 bytes) (sha256 (canonical plan)) ≡ refused.NoMemory) = λ e. absurd cc in
    tells-if (bytes_eq (piece 8 32 bytes) (sha256 (canonical plan))) None (Some (refused.OtherPlan (piece 8 32 bytes) (sha256 (canonical plan)))) tt other

tells-wrong : (n : ℕ) (slots : ℕ → List PlainSlot) (k : ℕ) → Tells (wrong_at n slots k)
unfolding wrong_at
tells-wrong n slots k =
    let other : ¬ (refused.Replicas (k / 128) (k / 64 % 2) (k % 64) ≡ refused.NoMemory) = λ e. absurd cc in
    tells-if (is_wrong n slots (k / 128) (k / 64 % 2) (k % 64)) (Some (refused.Replicas (k / 128) (k / 64 % 2) (k % 64))) None other tt

pub tells-label : (n : ℕ) (slots : ℕ → List PlainSlot) → Tells (wrong_label n slots)
unfolding wrong_label
tells-label n slots = tells-first (wrong_at n slots) (tells-wrong n slots) 0 (128 * n)

pub tells-late : (until epoch : ℕ) → Tells (late until epoch)
unfolding late
tells-late until epoch =
    let other : ¬ (refused.Late epoch until ≡ refused.NoMemory) = λ e. absurd cc in
    tells-if (nat_lt until epoch) (Some (refused.Late epoch until)) None other tt

pub not-memory : (e : CheckpointRefused) (found : Option CheckpointRefused) → Tells found → Some e ≡ found → ¬ (e ≡ refused.NoMemory)
not-memory e (Some x) tells same = λ is. tells (some-same e x same is)
  where
    some-same : (a b : CheckpointRefused) → Some a ≡ Some b → a ≡ refused.NoMemory → b ≡ refused.NoMemory
    some-same a b p q = cc
not-memory e None tells same = absurd cc

-- ---- what a reader answers

-- a refusal is that of memory, or it isn't
pub memory-or : (e : CheckpointRefused) → (e ≡ refused.NoMemory) ⊎ (¬ (e ≡ refused.NoMemory))
memory-or (refused.Short a) = inr (λ e. absurd cc)
memory-or refused.Magic = inr (λ e. absurd cc)
memory-or (refused.Shape a b) = inr (λ e. absurd cc)
memory-or (refused.Length a b) = inr (λ e. absurd cc)
memory-or (refused.Digest a b) = inr (λ e. absurd cc)
memory-or (refused.OtherPlan a b) = inr (λ e. absurd cc)
memory-or (refused.Replicas a b c) = inr (λ e. absurd cc)
memory-or (refused.Late a b) = inr (λ e. absurd cc)
memory-or refused.NoMemory = inl refl
memory-or (refused.Places a) = inr (λ e. absurd cc)
memory-or (refused.Orders a b) = inr (λ e. absurd cc)
memory-or (refused.Pending a b) = inr (λ e. absurd cc)
memory-or (refused.BankCount a b) = inr (λ e. absurd cc)
memory-or (refused.BankEpoch a b c) = inr (λ e. absurd cc)

-- ---- the form

-- what its tests say together
pub record HasForm (layout : Layout) (plan : Plan) (bytes : List ℕ) : Type 0 where
  pub kind : take 8 bytes ≡ layout.kind
  pub size : number_at 4 layout.place bytes ≡ plan.size
  pub slots : number_at 4 (layout.place + 4) bytes ≡ slots_of plan
  pub len : length bytes ≡ layout.len
  pub digest : digest_of bytes ≡ sha256 (body_of bytes)
  pub own_plan : piece 8 32 bytes ≡ sha256 (canonical plan)

pub form-right : (layout : Layout) (plan : Plan) (bytes : List ℕ) → layout.least ≤ length bytes → HasForm layout plan bytes → None ≡ form_refusal layout plan bytes
unfolding form_refusal
form-right layout plan bytes long has =
    or-later _ _ None (long-enough layout.least bytes long)
    (or-later _ _ None (kind-right layout.kind bytes has.kind)
    (or-later _ _ None (shape-right plan layout.place bytes has.size has.slots)
    (or-later _ _ None (length-right _ bytes has.len)
    (or-later _ _ None (digest-right bytes has.digest) (plan-right plan bytes has.own_plan)))))

pub form-is : (layout : Layout) (plan : Plan) (bytes : List ℕ) → None ≡ form_refusal layout plan bytes → HasForm layout plan bytes
unfolding form_refusal
form-is layout plan bytes e =
    let a = or-none (short layout.least bytes) _ e in
    let b = or-none (other_kind layout.kind bytes) _ a.1 in
    let c = or-none (other_shape plan layout.place bytes) _ b.1 in
    let d = or-none (other_length layout.len bytes) _ c.1 in
    let f = or-none (damaged bytes) (other_plan plan bytes) d.1 in
    let shape = shape-is plan layout.place bytes c.0 in
    record { kind = kind-is layout.kind bytes b.0; size = shape.0; slots = shape.1; len = length-is _ bytes d.0; digest = digest-is bytes f.0; own_plan = plan-is plan bytes f.1 }

pub form-tells : (layout : Layout) (plan : Plan) (bytes : List ℕ) → Tells (form_refusal layout plan bytes)
unfolding form_refusal
form-tells layout plan bytes =
    tells-or _ _ (tells-short layout.least bytes) (tells-or _ _ (tells-kind layout.kind bytes) (tells-or _ _ (tells-shape plan layout.place bytes)
    (tells-or _ _ (tells-length _ bytes) (tells-or _ _ (tells-digest bytes) (tells-plan plan bytes)))))
