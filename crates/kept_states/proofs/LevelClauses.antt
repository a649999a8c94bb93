-- The reader of one bank's checkpoint and that of several answer as one.
use Rattle.std.proofs.Common.{Global, ◌≡◌, ℕ, List, [], ◌∷◌, length, map, get_or, ◌+◌, ◌*◌, ◌≤◌, Option, Some, None, Result, Ok, Err, refl, sym, ap, subst, ◌∙◌, arith}
use Rattle.std.proofs.lemmas.List.{length-map}
use Rattle.std.specs.declared.vec.Vec.{Vec}
use Rattle.glass_edges.specs.Refusals.{unless, GivesAfterTests}
use Rattle.kept_states.specs.Levels.{level_len, level_banks_refusal, level_banks_in, level_banks_decoded}
use Rattle.plane_sweep.specs.declared.stand.Stand.{Stand}
use Rattle.run_checkpoint.specs.BankDecoding.{banks_decoded}
use Rattle.run_checkpoint.specs.Decoding.{level_refusal, decoded}
use Rattle.run_checkpoint.specs.Reading.{stand_in}
use Rattle.run_checkpoint.specs.declared.refused.CheckpointRefused.{CheckpointRefused}
use Rattle.run_checkpoint.specs.declared.refused.CheckpointRefused.TheVariants as checkpoint
use Rattle.run_checkpoint.specs.BankEncoding.{bank_len}
use Rattle.run_checkpoint.specs.Lengths.{encoding_len}
use Rattle.scalar_rule.specs.Plan.{Plan, slots_of}

-- ---- answers

-- an answer of the call inside
pub gives-same : {A B E : Type 0} (memory : E) (view : A → B) (result : Result A E) (e own : E) (read : Result B E) → result ≡ Err e → e ≡ own
    → GivesAfterTests {A = A} memory view (Err own) read → GivesAfterTests memory view result read
gives-same memory view result e own read is same given = rw (is, same) given

-- none for lack of memory
pub gives-none : {A B E : Type 0} (memory : E) (view : A → B) (result : Result A E) (e : E) (x : B) (read : Result B E) → result ≡ Err e → e ≡ memory → read ≡ Ok x
    → GivesAfterTests memory view result read
gives-none memory view result e x read is same found = rw is ((λ lacks. (x, found)), λ not. absurd (not same))

-- ---- one bank, as the only one of a list

pub only-one : {X Y : Type 0} (f : X → Y) (xs : List X) (x : X) → length xs ≡ 1 → x ≡ get_or xs 0 x → f x ∷ [] ≡ map f xs
only-one f [] x one is = absurd (omega (arith, one))
only-one f (y ∷ []) x one is = ap (λ z. f z ∷ []) is
only-one f (y ∷ z ∷ zs) x one is = absurd (omega (arith, one))

listed : (refusal : Option CheckpointRefused) (x : Stand) (e : CheckpointRefused) → GivesAfterTests {A = Stand} {B = Stand} checkpoint.NoMemory (λ s. s) (Err e) (unless refusal x)
    → GivesAfterTests {A = List Stand} {B = List Stand} checkpoint.NoMemory (λ s. s) (Err e) (unless refusal (x ∷ []))
listed None x e given = ((λ memory. (x ∷ [], refl)), λ not. absurd (let z = given.1 not in cc))
listed (Some due) x e given = ((λ memory. absurd (let z = (given.0 memory).1 in cc)), λ not. let z = given.1 not in let same : due ≡ e = cc in ap Err same)

-- it is refused as that of one plan
pub one-refused : (plan : Plan) (until : ℕ) (bytes : List ℕ) (e : CheckpointRefused) → GivesAfterTests {A = Stand} {B = Stand} checkpoint.NoMemory (λ s. s) (Err e) (decoded plan until bytes)
    → GivesAfterTests {A = List Stand} {B = List Stand} checkpoint.NoMemory (λ s. s) (Err e) (level_banks_decoded (plan ∷ []) until bytes)
unfolding decoded level_banks_decoded level_banks_refusal level_banks_in
one-refused plan until bytes e given = listed (level_refusal plan until bytes) (stand_in plan bytes) e given

read-one : (refusal : Option CheckpointRefused) (x y : Stand) → unless refusal x ≡ Ok y → unless refusal (x ∷ []) ≡ Ok (y ∷ [])
read-one None x y is = let same : x ≡ y = same-stand x y is in ap (λ s. Ok (s ∷ [])) same
  where
    same-stand : (a b : Stand) → ◌≡◌ {A = Result Stand CheckpointRefused} (Ok a) (Ok b) → a ≡ b
    same-stand a b e = cc
read-one (Some due) x y is = absurd cc

-- and read as its state
pub one-read : (plan : Plan) (until : ℕ) (bytes : List ℕ) (stand : Stand) → decoded plan until bytes ≡ Ok stand → level_banks_decoded (plan ∷ []) until bytes ≡ Ok (stand ∷ [])
unfolding decoded level_banks_decoded level_banks_refusal level_banks_in
one-read plan until bytes stand is = read-one (level_refusal plan until bytes) (stand_in plan bytes) stand is

-- several banks
pub several-read : (plans : List Plan) (until : ℕ) (bytes : List ℕ) → ¬ (length plans ≡ 1) → banks_decoded plans until bytes ≡ level_banks_decoded plans until bytes
unfolding level_banks_decoded level_banks_refusal level_banks_in banks_decoded
several-read [] until bytes not = refl
several-read (plan ∷ []) until bytes not = absurd (not refl)
several-read (plan ∷ next ∷ plans) until bytes not = refl

-- they are refused as such
pub several-given : (plans : List Plan) (until : ℕ) (bytes : List ℕ) (e : CheckpointRefused) → ¬ (length plans ≡ 1)
    → GivesAfterTests {A = Vec Stand Global} {B = List Stand} checkpoint.NoMemory (λ (v : Vec Stand Global). v.items) (Err e) (banks_decoded plans until bytes)
    → GivesAfterTests {A = List Stand} {B = List Stand} checkpoint.NoMemory (λ s. s) (Err e) (level_banks_decoded plans until bytes)
several-given plans until bytes e not given = subst (λ (read : Result (List Stand) CheckpointRefused). GivesAfterTests {A = List Stand} {B = List Stand} checkpoint.NoMemory (λ s. s) (Err e) read) (several-read plans until bytes not) given

-- ---- its length

pub one-len : {X : Type 0} (f : X → Plan) (xs : List X) (size slots : X) (bank : ℕ) → length xs ≡ 1 → size ≡ get_or xs 0 size → slots ≡ get_or xs 0 slots
    → bank ≡ encoding_len (f size).size (slots_of (f slots)) → bank ≡ level_len (map f xs)
unfolding level_len bank_len
one-len f [] size slots bank one a b is = absurd (omega (arith, one))
one-len f (x ∷ []) size slots bank one a b is = is ∙ ap (λ y. encoding_len (f y).size (slots_of (f slots))) a ∙ ap (λ y. encoding_len (f x).size (slots_of (f y))) b
one-len f (x ∷ y ∷ xs) size slots bank one a b is = absurd (omega (arith, one))

pub many-len : {X : Type 0} (f : X → Plan) (xs : List X) (size slots : X) (bank : ℕ) → 1 ≤ length xs → (length xs ≡ 1 → ⊥) → size ≡ get_or xs 0 size → slots ≡ get_or xs 0 slots
    → bank ≡ encoding_len (f size).size (slots_of (f slots)) → 44 + bank * length xs ≡ level_len (map f xs)
unfolding level_len bank_len
many-len f [] size slots bank some not a b is = absurd (omega (arith, some))
many-len f (x ∷ []) size slots bank some not a b is = absurd (not refl)
many-len f (x ∷ y ∷ xs) size slots bank some not a b is =
    let own : bank ≡ encoding_len (f x).size (slots_of (f x)) = is ∙ ap (λ z. encoding_len (f z).size (slots_of (f slots))) a ∙ ap (λ z. encoding_len (f x).size (slots_of (f z))) b in
    ap (λ n. 44 + n * length (x ∷ y ∷ xs)) own ∙ ap (λ n. 44 + encoding_len (f x).size (slots_of (f x)) * n) (sym (length-map (x ∷ y ∷ xs) f))
