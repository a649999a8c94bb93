-- Maps made of lists of entries, where the first entry of a name counts.
use Rattle.std.proofs.Common.{◌≡◌, ℕ, zero, suc, ◌<◌, Bool, true, false, cond, List, [], ◌∷◌, ◌++◌, length, get_or, set, Option, Some, None, refl, sym, ap, subst, ◌∙◌, arith}
use Rattle.std.specs.Ordering.{nat_cmp}
use Rattle.std.specs.Cmp.Lexicographic.{slice_cmp}
use Rattle.std.specs.Str.{bytes_eq}
use Rattle.std.specs.FinMap as map
use Rattle.std.proofs.lemmas.Bool.{false_from_ne_true}
use Rattle.std.proofs.lemmas.Cmp.{nat_list_cmp_total}
use Rattle.std.proofs.lemmas.Map.Lookups.{exact_bytes}
use Rattle.std.proofs.lemmas.Map.Text.{is_eq-slice_cmp}
use Rattle.std.proofs.lemmas.Slice.Eq.{bytes_eq-Decides}
use Rattle.glass_edges.specs.Entries.{set_to, map_of}

abbrev pub Texts : Type 0 → Type 0
Texts X = map.FinMap (slice_cmp nat_cmp) X

module _ {X : Type 0} where
  pub same_texts : (m n : Texts X) → ((q : List ℕ) → map.get m q ≡ map.get n q) → m ≡ n
  same_texts m n h = map.same_map nat_list_cmp_total exact_bytes m n h

  pub get-set_to : (m : Texts X) (k : List ℕ) (o : Option X) (q : List ℕ) → map.get (set_to m k o) q ≡ cond (bytes_eq q k) o (map.get m q)
  get-set_to m k None q = map.get-remove nat_list_cmp_total m k q ∙ ap (λ b. cond b None (map.get m q)) (is_eq-slice_cmp q k)
  get-set_to m k (Some x) q = map.get-insert nat_list_cmp_total m k x q ∙ ap (λ b. cond b (Some x) (map.get m q)) (is_eq-slice_cmp q k)

  over : (b : Bool) (o p g : Option X) → cond b p (cond b o g) ≡ cond b p g
  over true o p g = refl
  over false o p g = refl

  pub set_to-twice : (m : Texts X) (k : List ℕ) (o p : Option X) → set_to (set_to m k o) k p ≡ set_to m k p
  set_to-twice m k o p = same_texts _ _ (λ q. get-set_to (set_to m k o) k p q ∙ ap (cond (bytes_eq q k) p) (get-set_to m k o q) ∙ over (bytes_eq q k) o p (map.get m q) ∙ sym (get-set_to m k p q))

  swapped : (a b : Bool) (o p g : Option X) → (a ≡ true → b ≡ true → ⊥) → cond a p (cond b o g) ≡ cond b o (cond a p g)
  swapped true true o p g h = absurd (h refl refl)
  swapped true false o p g h = refl
  swapped false true o p g h = refl
  swapped false false o p g h = refl

  pub set_to-apart : (m : Texts X) (k l : List ℕ) (o p : Option X) → (k ≡ l → ⊥) → set_to (set_to m k o) l p ≡ set_to (set_to m l p) k o
  set_to-apart m k l o p apart = same_texts _ _ (λ q.
      get-set_to (set_to m k o) l p q ∙ ap (cond (bytes_eq q l) p) (get-set_to m k o q)
      ∙ swapped (bytes_eq q l) (bytes_eq q k) o p (map.get m q) (λ is_l is_k. apart (sym ((bytes_eq-Decides q k).0 is_k) ∙ (bytes_eq-Decides q l).0 is_l))
      ∙ sym (get-set_to (set_to m l p) k o q ∙ ap (cond (bytes_eq q k) o) (get-set_to m l p q)))

  there : (b : Bool) (o g : Option X) → (b ≡ true → g ≡ o) → cond b o g ≡ g
  there true o g h = sym (h refl)
  there false o g h = refl

  -- setting what is there changes nothing
  pub set_to-same : (m : Texts X) (k : List ℕ) (o : Option X) → map.get m k ≡ o → set_to m k o ≡ m
  set_to-same m k o h = same_texts _ _ (λ q. get-set_to m k o q ∙ there (bytes_eq q k) o (map.get m q) (λ is. ap (map.get m) ((bytes_eq-Decides q k).0 is) ∙ h))

  pub get-set_to-here : (m : Texts X) (k : List ℕ) (o : Option X) → map.get (set_to m k o) k ≡ o
  get-set_to-here m k o = get-set_to m k o k ∙ ap (λ b. cond b o (map.get m k)) ((bytes_eq-Decides k k).1 refl)

  pub get-set_to-apart : (m : Texts X) (k : List ℕ) (o : Option X) (q : List ℕ) → (k ≡ q → ⊥) → map.get (set_to m k o) q ≡ map.get m q
  get-set_to-apart m k o q h = get-set_to m k o q ∙ ap (λ b. cond b o (map.get m q)) (false_from_ne_true (bytes_eq q k) (λ is. h (sym ((bytes_eq-Decides q k).0 is))))

module _ {E X : Type 0} (named : E → List ℕ) (has : E → Option X) where
  -- what the map has at the first entry of a name
  pub get-first : (es : List E) (n : List ℕ) (i : ℕ) → i < length es → ((d : E) → named (get_or es i d) ≡ n) → ((k : ℕ) (d : E) → k < i → named (get_or es k d) ≡ n → ⊥) → (d : E) → map.get (map_of named has es) n ≡ has (get_or es i d)
  unfolding map_of
  get-first [] n i within here before d = absurd (omega arith)
  get-first (e ∷ es) n zero within here before d = subst (λ k. map.get (set_to (map_of named has es) (named e) (has e)) k ≡ has e) (here e) (get-set_to-here (map_of named has es) (named e) (has e))
  get-first (e ∷ es) n (suc i) within here before d =
      get-set_to-apart (map_of named has es) (named e) (has e) n (before 0 e (omega arith))
      ∙ get-first es n i (omega arith) here (λ k d h. before (suc k) d (omega arith)) d

  pub get-missing : (es : List E) (n : List ℕ) → ((k : ℕ) (d : E) → k < length es → named (get_or es k d) ≡ n → ⊥) → map.get (map_of named has es) n ≡ None
  unfolding map_of
  get-missing [] n before = map.get-empty _ n
  get-missing (e ∷ es) n before =
      get-set_to-apart (map_of named has es) (named e) (has e) n (before 0 e (omega arith))
      ∙ get-missing es n (λ k d h. before (suc k) d (omega arith))

  -- the first entry of a name is replaced
  pub map_of-set : (es : List E) (n : List ℕ) (i : ℕ) (x : E) → i < length es → ((d : E) → named (get_or es i d) ≡ n) → ((k : ℕ) (d : E) → k < i → named (get_or es k d) ≡ n → ⊥) → named x ≡ n → map_of named has (set es i x) ≡ set_to (map_of named has es) n (has x)
  unfolding map_of
  map_of-set [] n i x within here before same = absurd (omega arith)
  map_of-set (e ∷ es) n zero x within here before same =
      ap (λ k. set_to (map_of named has es) k (has x)) same
      ∙ sym (ap (λ k. set_to (set_to (map_of named has es) k (has e)) n (has x)) (here e) ∙ set_to-twice (map_of named has es) n (has e) (has x))
  map_of-set (e ∷ es) n (suc i) x within here before same =
      ap (λ m. set_to m (named e) (has e)) (map_of-set es n i x (omega arith) here (λ k d h. before (suc k) d (omega arith)) same)
      ∙ set_to-apart (map_of named has es) n (named e) (has x) (has e) (λ is. before 0 e (omega arith) (sym is))

  -- an entry is replaced by one of the same name that has the same
  pub map_of-same : (es : List E) (i : ℕ) (x : E) → ((d : E) → named x ≡ named (get_or es i d)) → ((d : E) → has x ≡ has (get_or es i d)) → map_of named has (set es i x) ≡ map_of named has es
  unfolding map_of
  map_of-same [] i x same_name same = refl
  map_of-same (e ∷ es) zero x same_name same = rw (same_name e, same e) refl
  map_of-same (e ∷ es) (suc i) x same_name same = ap (λ m. set_to m (named e) (has e)) (map_of-same es i x same_name same)

  -- an entry of a new name is added at the end
  pub map_of-push : (es : List E) (n : List ℕ) (x : E) → ((k : ℕ) (d : E) → k < length es → named (get_or es k d) ≡ n → ⊥) → named x ≡ n → map_of named has (es ++ x ∷ []) ≡ set_to (map_of named has es) n (has x)
  unfolding map_of
  map_of-push [] n x before same = ap (λ k. set_to map.empty k (has x)) same
  map_of-push (e ∷ es) n x before same =
      ap (λ m. set_to m (named e) (has e)) (map_of-push es n x (λ k d h. before (suc k) d (omega arith)) same)
      ∙ set_to-apart (map_of named has es) n (named e) (has x) (has e) (λ is. before 0 e (omega arith) (sym is))
