-- A message that grows by the bytes of one item of a list after the other.
use Rattle.std.proofs.Common.{◌≡◌, ℕ, ◌+◌, ◌<◌, ◌≤◌, List, ◌++◌, length, get_or, take, refl, sym, ap, ◌∙◌, subst}
use Rattle.std.specs.Prelude.{◌/◌, ◌%◌}
use Rattle.std.specs.List.{flat_map}
use Rattle.byteorder.specs.Endian.{big_bytes}
use Rattle.spin_model.specs.Lattice.{bond_count}
use Rattle.spin_model.specs.Words.{words_64}
use Rattle.spin_model.proofs.Tables.{length-table, get_or-table}
use Rattle.coupling_set.specs.CouplingWords.{CouplingsView, bond_word}
use Rattle.run_plan.specs.CanonicalPlan.{bond_words}
use Rattle.std.proofs.lemmas.List.{take_more, take_all, append-nil, append_assoc, flat_map_more}

-- no item yet
pub told-none : {X : Type 0} (Holds : List ℕ → Type 0) (f : X → List ℕ) (m : List ℕ) (xs : List X) → Holds m → Holds (m ++ flat_map f (take 0 xs))
told-none Holds f m xs held = subst Holds (sym (append-nil m)) held

-- one item more
pub told-more : {X : Type 0} (Holds : List ℕ → Type 0) (f : X → List ℕ) (m : List ℕ) (xs : List X) (i : ℕ) (d : X) → i < length xs → Holds ((m ++ flat_map f (take i xs)) ++ f (get_or xs i d)) → Holds (m ++ flat_map f (take (i + 1) xs))
told-more Holds f m xs i d within held =
    subst Holds (flat_map_more f m (take i xs) (get_or xs i d) ∙ ap (λ ys. m ++ flat_map f ys) (sym (take_more xs i d within))) held

-- all items
pub told-all : {X : Type 0} (Holds : List ℕ → Type 0) (f : X → List ℕ) (m : List ℕ) (xs : List X) (i : ℕ) → length xs ≤ i → Holds (m ++ flat_map f (take i xs)) → Holds (m ++ flat_map f xs)
told-all Holds f m xs i long held = subst Holds (ap (λ ys. m ++ flat_map f ys) (take_all i xs long)) held

-- ---- the words of the bonds

pub length-bond_words : (couplings : CouplingsView) → length (bond_words couplings) ≡ bond_count couplings.size
length-bond_words couplings = length-table (λ n. bond_word couplings (n / 3) (n % 3)) (bond_count couplings.size)

-- one bond more
pub told-bond : (Holds : List ℕ → Type 0) (m : List ℕ) (couplings : CouplingsView) (n w : ℕ) → n < bond_count couplings.size → w ≡ bond_word couplings (n / 3) (n % 3)
    → Holds ((m ++ flat_map (big_bytes 8) (take n (bond_words couplings))) ++ big_bytes 8 w) → Holds (m ++ flat_map (big_bytes 8) (take (n + 1) (bond_words couplings)))
told-bond Holds m couplings n w within same held =
    let item : ℕ → ℕ = λ k. bond_word couplings (k / 3) (k % 3) in
    told-more Holds (big_bytes 8) m (bond_words couplings) n 0 (subst (λ k. n < k) (sym (length-bond_words couplings)) within)
    (subst (λ x. Holds ((m ++ flat_map (big_bytes 8) (take n (bond_words couplings))) ++ big_bytes 8 x)) (same ∙ sym (get_or-table item (bond_count couplings.size) n 0 within)) held)

-- all bonds
pub told-bonds : (Holds : List ℕ → Type 0) (m : List ℕ) (couplings : CouplingsView) (n : ℕ) → bond_count couplings.size ≤ n
    → Holds (m ++ flat_map (big_bytes 8) (take n (bond_words couplings))) → Holds (m ++ words_64 (bond_words couplings))
told-bonds Holds m couplings n long held =
    told-all Holds (big_bytes 8) m (bond_words couplings) n (subst (λ k. k ≤ n) (sym (length-bond_words couplings)) long) held

-- ---- six pieces one after the other

joined : (m a b c d e f : List ℕ) → (((((m ++ a) ++ b) ++ c) ++ d) ++ e) ++ f ≡ m ++ (a ++ b ++ c ++ d ++ e ++ f)
joined m a b c d e f = simp append_assoc refl

pub told-six : (Holds : List ℕ → Type 0) (m a b c d e f b' c' d' e' f' : List ℕ) → b ≡ b' → c ≡ c' → d ≡ d' → e ≡ e' → f ≡ f'
    → Holds ((((((m ++ a) ++ b) ++ c) ++ d) ++ e) ++ f) → Holds (m ++ (a ++ b' ++ c' ++ d' ++ e' ++ f'))
told-six Holds m a b c d e f b' c' d' e' f' p q r s t held = rw (← p, ← q, ← r, ← s, ← t) (subst Holds (joined m a b c d e f) held)
