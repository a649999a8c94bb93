-- The checkpoint of banks at their end.
use Rattle.std.specs.Prelude.{All, flat_map, OnOk, Result, Ok, Err}
use Rattle.std.proofs.Common.{◌≡◌, ℕ, ◌+◌, ◌*◌, ◌<◌, ◌≤◌, List, [], ◌∷◌, ◌++◌, length, drop, get_or, append_assoc, append-nil, ap, ap₂, refl, sym, ◌∙◌, arith}
use Rattle.std.proofs.lemmas.List.{length-map, drop_all}
use Rattle.std.proofs.lemmas.List.Elements.{All-head, All-tail}
use native.Mathlib.Nat.{mul-suc, mul-zero}
use Rattle.scalar_rule.specs.Plan.{slots_of}
use Rattle.scalar_rule.specs.Serial.{serial}
use Rattle.scalar_rule.specs.declared.sample.Sample.{Sample}
use Rattle.run_checkpoint.specs.BankEncoding.{banks_header, banks_bytes, banks_encoding, bank_len, HaveShape, BanksStand}
use Rattle.run_checkpoint.specs.Encoding.{encoding}
use Rattle.run_checkpoint.specs.Kinds.{sealed}
use Rattle.run_checkpoint.specs.Lengths.{encoding_len}
use Rattle.run_checkpoint.proofs.LevelClauses.{encoding-same}
use Rattle.measured_run.specs.Banks.{BankView, start_of, plans_in, bases_in}
use Rattle.measured_run.specs.KeptRuns.{end_bytes, end_checkpoint, spare_for}
use Rattle.measured_run.specs.Runs.{states_at, checkpoint_at}
use Rattle.measured_run.proofs.BankLists.{next-of}

-- ---- the next bank's

pub spare-next : (banks : List BankView) (g : ℕ) (d : BankView) → g < length banks
    → spare_for (drop g banks) ≡ encoding_len (get_or banks g d).plan.size (slots_of (get_or banks g d).plan) + spare_for (drop (g + 1) banks)
unfolding spare_for
spare-next banks g d within = ap spare_for (next-of banks g d within)

pub bytes-next : (banks : List BankView) (g : ℕ) (d : BankView) (old new whole : List ℕ) → g < length banks → new ≡ old ++ end_bytes (get_or banks g d)
    → old ++ flat_map end_bytes (drop g banks) ≡ whole → new ++ flat_map end_bytes (drop (g + 1) banks) ≡ whole
bytes-next banks g d old new whole within put so_far =
    let rest = flat_map end_bytes (drop (g + 1) banks) in
    ap (λ xs. xs ++ rest) put ∙ append_assoc old (end_bytes (get_or banks g d)) rest ∙ ap (λ bs. old ++ flat_map end_bytes bs) (sym (next-of banks g d within)) ∙ so_far

pub bytes-all : (banks : List BankView) (g : ℕ) (old whole : List ℕ) → length banks ≤ g → old ++ flat_map end_bytes (drop g banks) ≡ whole → old ≡ whole
bytes-all banks g old whole long so_far = sym (append-nil old) ∙ ap (λ bs. old ++ flat_map end_bytes bs) (sym (drop_all g banks long)) ∙ so_far

pub spare-all : (banks : List BankView) (g : ℕ) → length banks ≤ g → spare_for (drop g banks) ≡ 0
unfolding spare_for
spare-all banks g long = ap spare_for (drop_all g banks long)

-- ---- all of them

spare-one : (size slots : ℕ) (banks : List BankView) → HaveShape size slots (plans_in banks) → spare_for banks ≡ encoding_len size slots * length banks
unfolding spare_for HaveShape
spare-one size slots [] shape = sym (mul-zero (encoding_len size slots))
spare-one size slots (b ∷ bs) shape =
    let own : encoding_len b.plan.size (slots_of b.plan) ≡ encoding_len size slots = ap₂ encoding_len shape.0 shape.1 in
    let more = spare-one size slots bs shape.2 in
    let step = mul-suc (encoding_len size slots) (length bs) in
    omega (arith, own, more, step)

len-one : (size slots : ℕ) (banks : List BankView) → 1 ≤ length banks → HaveShape size slots (plans_in banks) → bank_len (plans_in banks) ≡ encoding_len size slots
unfolding bank_len HaveShape
len-one size slots [] some shape = absurd (omega (arith, some))
len-one size slots (b ∷ bs) some shape = ap₂ encoding_len shape.0 shape.1

pub spare-whole : (size slots : ℕ) (banks : List BankView) → 1 ≤ length banks → HaveShape size slots (plans_in banks)
    → spare_for banks ≡ bank_len (plans_in banks) * length (plans_in banks)
spare-whole size slots banks some shape =
    spare-one size slots banks shape ∙ ap (λ n. n * length banks) (sym (len-one size slots banks some shape))
    ∙ ap (λ n. bank_len (plans_in banks) * n) (sym (length-map banks (λ (bank : BankView). bank.plan)))

pub one-checkpoint : (banks : List BankView) → length banks ≡ 1 → flat_map end_bytes banks ≡ end_checkpoint banks
unfolding end_checkpoint
one-checkpoint [] one = absurd (omega (arith, one))
one-checkpoint (b ∷ []) one = append-nil (end_bytes b)
one-checkpoint (b ∷ next ∷ bs) one = absurd (omega (arith, one))

pub many-checkpoint : (banks : List BankView) → 2 ≤ length banks → sealed (banks_header (length banks) ++ flat_map end_bytes banks) ≡ end_checkpoint banks
unfolding end_checkpoint
many-checkpoint [] many = absurd (omega (arith, many))
many-checkpoint (b ∷ []) many = absurd (omega (arith, many))
many-checkpoint (b ∷ next ∷ bs) many = refl

-- ---- by the samples

own-bytes : (bank : BankView) (start : ℕ → Sample) (until : ℕ) → bank.until ≡ until → ((b : ℕ) → b < 64 → start_of bank.plan bank.base b ≡ start b)
    → end_bytes bank ≡ encoding bank.plan (λ b. serial bank.plan (start b) until)
own-bytes bank start until last stands =
    encoding-same bank.plan (λ b. serial bank.plan (start_of bank.plan bank.base b) bank.until) (λ b. serial bank.plan (start b) until)
    (λ b small. ap₂ (λ (s : Sample) (e : ℕ). serial bank.plan s e) (stands b small) last)

many-bytes : (banks : List BankView) (starts : List (ℕ → Sample)) (until : ℕ) → All (λ (bank : BankView). bank.until ≡ until) banks
    → BanksStand (plans_in banks) starts (bases_in banks) → flat_map end_bytes banks ≡ banks_bytes (plans_in banks) (states_at (plans_in banks) starts until)
unfolding BanksStand banks_bytes states_at
many-bytes [] [] until last stand = refl
many-bytes [] (s ∷ ss) until last stand = absurd stand
many-bytes (b ∷ bs) [] until last stand = absurd stand
many-bytes (b ∷ bs) (s ∷ ss) until last stand =
    ap₂ (λ xs ys. xs ++ ys) (own-bytes b s until (All-head (λ (bank : BankView). bank.until ≡ until) b bs last) stand.0)
    (many-bytes bs ss until (All-tail (λ (bank : BankView). bank.until ≡ until) b bs last) stand.1)

pub checkpoint-serial : (banks : List BankView) (starts : List (ℕ → Sample)) (until : ℕ) → All (λ (bank : BankView). bank.until ≡ until) banks
    → BanksStand (plans_in banks) starts (bases_in banks) → end_checkpoint banks ≡ checkpoint_at (plans_in banks) starts until
unfolding BanksStand end_checkpoint checkpoint_at banks_encoding
checkpoint-serial [] [] until last stand = refl
checkpoint-serial [] (s ∷ ss) until last stand = absurd stand
checkpoint-serial (b ∷ []) [] until last stand = absurd stand
checkpoint-serial (b ∷ []) (s ∷ ss) until last stand = own-bytes b s until (All-head (λ (bank : BankView). bank.until ≡ until) b [] last) stand.0
checkpoint-serial (b ∷ next ∷ bs) starts until last stand =
    let banks = b ∷ next ∷ bs in
    ap₂ (λ (n : ℕ) (xs : List ℕ). sealed (banks_header n ++ xs)) (sym (length-map banks (λ (bank : BankView). bank.plan))) (many-bytes banks starts until last stand)

-- ---- an outcome

pub on-ok : {T E : Type 0} (r : Result T E) (P Q : Type 0) → (P → Q) → OnOk r P → OnOk r Q
on-ok (Ok x) P Q then p = then p
on-ok (Err e) P Q then p = tt
