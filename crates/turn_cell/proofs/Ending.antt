-- Lists of seats at the opening and at the end.
use Rattle.std.proofs.Common.{◌≡◌, ℕ, zero, suc, ◌+◌, ◌-◌, ◌<◌, false, All, List, [], ◌∷◌, ◌++◌, length, slice_index_or, Option, Some, sym, ap, ◌∙◌, subst, arith, length-append, append_assoc}
use Rattle.std.proofs.lemmas.List.Elements.{All-nil, All-cons}
use mathlib.Core.Option.{some, some-injective}
use lib.ListN.{get_elem?}
use Rattle.atomic_table.specs.Seated.{TableId}
use Rattle.atomic_table.specs.Table.{Final, Seen}
use Rattle.turn_cell.specs.declared.view.View.{View}
use Rattle.turn_cell.specs.declared.pass.Pass.{Pass}
use Rattle.turn_cell.specs.Sums.{numbers_from}
use Rattle.turn_cell.specs.Progress.{fresh_view, AtMost, NoneIsInWork, first_view, opened_view}
use Rattle.turn_cell.specs.AtomicSteps.{kept_part, given_part, after_join, greatest}
use Rattle.turn_cell.specs.LockRule.{LockRule}
use Rattle.turn_cell.specs.Seats.{seat_view, IsSeatOf, AreOpened, IsIdle, AreIdle, base_of, IsGathered}
use Rattle.turn_cell.proofs.Adding.{length-numbers_from}
use Rattle.turn_cell.proofs.Views.{at_most_itself, at_most_trans, greatest_left, greatest_right}
use Rattle.turn_cell.proofs.Parting.{closes}
use Rattle.turn_cell.proofs.Seating.{idle-front, idle-last}

module _ {T O : Type 0} where
  opened-snoc : (id : TableId) (base : O) (places n k m : ℕ) (ps : List (Pass T O)) (p : Pass T O) → AreOpened id base places n k ps
      → k + length ps ≡ m → IsSeatOf id p → seat_view p ≡ opened_view base places n m → AreOpened id base places n k (ps ++ p ∷ [])
  opened-snoc id base places n k m [] p all e own is = let same : m ≡ k = omega arith in (own, is ∙ ap (opened_view base places n) same, tt)
  opened-snoc id base places n k m (x ∷ xs) p all e own is = (all.0, all.1, opened-snoc id base places n (k + 1) m xs p all.2 (omega arith) own is)

module _ {O : Type 0} where
  -- the seat that stands for m numbers from k on
  abbrev stand : O → ℕ → ℕ → ℕ → ℕ → View O
  stand base places n k m = fresh_view base places n (n - 1) (numbers_from k m)

  -- so many seats were dealt, and the last stands for the other numbers
  pub record IsDealt {T : Type 0} (id : TableId) (base : O) (places n : ℕ) (last : View O) (ps : List (Pass T O)) : Type 0 where
    pub dealt : ℕ
    pub left : ℕ
    pub count : dealt ≡ length ps
    pub all : dealt + left ≡ n
    pub stands : last ≡ stand base places n dealt left
    pub opened : AreOpened id base places n 0 ps

  pub dealt-none : {T : Type 0} (id : TableId) (base : O) (places n : ℕ) (last : View O) (ps : List (Pass T O))
      → last ≡ first_view base places n → ps ≡ [] → IsDealt id base places n last ps
  dealt-none {T = T} id base places n last ps is none = record {
    dealt = 0;
    left = n;
    count = sym (ap (λ (l : List (Pass T O)). length l) none);
    all = omega arith;
    stands = is;
    opened = subst (AreOpened id base places n 0) (sym none) tt;
  }

  dealt-so : {T : Type 0} (id : TableId) (base : O) (places n : ℕ) (last : View O) (ps : List (Pass T O)) (p : Pass T O) (k m : ℕ)
      → k ≡ length ps → k + m ≡ n → last ≡ stand base places n k m → AreOpened id base places n 0 ps
      → length ps + 1 < n → IsSeatOf id p → seat_view p ≡ given_part last → IsDealt id base places n (kept_part last) (ps ++ p ∷ [])
  dealt-so id base places n last ps p k zero len sum is all short own new = absurd (omega arith)
  dealt-so id base places n last ps p k (suc m) len sum is all short own new = record {
    dealt = k + 1;
    left = m;
    count = omega (arith, length-append ps (p ∷ []));
    all = omega arith;
    stands = ap (λ (v : View O). kept_part v) is;
    opened = opened-snoc id base places n 0 k ps p all (omega arith) own (new ∙ ap (λ (v : View O). given_part v) is);
  }

  pub dealt-more : {T : Type 0} (id : TableId) (base : O) (places n : ℕ) (last : View O) (ps : List (Pass T O)) (p : Pass T O)
      → IsDealt id base places n last ps → length ps + 1 < n → IsSeatOf id p → seat_view p ≡ given_part last
      → IsDealt id base places n (kept_part last) (ps ++ p ∷ [])
  dealt-more id base places n last ps p d short own new = dealt-so id base places n last ps p d.dealt d.left d.count d.all d.stands d.opened short own new

  -- a seat can be split while two numbers are left
  pub dealt-two : {T : Type 0} (id : TableId) (base : O) (places n : ℕ) (last : View O) (ps : List (Pass T O))
      → IsDealt id base places n last ps → length ps + 1 < n → 1 < length last.numbers
  dealt-two id base places n last ps d short = omega (arith, ap (λ (v : View O). length v.numbers) d.stands, length-numbers_from d.dealt d.left, d.count, d.all)

  pub dealt-free : {T : Type 0} (id : TableId) (base : O) (places n : ℕ) (last : View O) (ps : List (Pass T O))
      → IsDealt id base places n last ps → last.holding ≡ false
  dealt-free id base places n last ps d = ap (λ (v : View O). v.holding) d.stands

  pub dealt-all : {T : Type 0} (id : TableId) (base : O) (places n : ℕ) (p : Pass T O) (ps : List (Pass T O))
      → IsDealt id base places n (seat_view p) ps → length ps + 1 ≡ n → IsSeatOf id p → AreOpened id base places n 0 (ps ++ p ∷ [])
  dealt-all id base places n p ps d full own =
      let one : d.left ≡ 1 = omega (arith, d.count, d.all) in
      let most : d.dealt ≡ n - 1 = omega (arith, d.count, d.all) in
      let last : stand base places n d.dealt d.left ≡ opened_view base places n (n - 1) = ap (stand base places n d.dealt) one ∙ ap (λ (j : ℕ). stand base places n j 1) most in
      opened-snoc id base places n 0 (n - 1) ps p d.opened (omega (arith, d.count, d.all)) own (d.stands ∙ last)

module _ {T O : Type 0} where
  -- of these seats, those behind the first ones are gathered in one
  pub record IsGathering (id : TableId) (all ps : List (Pass T O)) (kept : Pass T O) : Type 0 where
    pub idle : AreIdle id (base_of all) (length all) ps
    pub gathered : List (Pass T O)
    pub parts : all ≡ ps ++ gathered
    pub own : IsSeatOf id kept
    pub count : length (seat_view kept).numbers ≡ length gathered
    pub total : (seat_view kept).total ≡ length all
    pub base : (seat_view kept).base ≡ base_of all
    pub free : (seat_view kept).holding ≡ false
    pub done : (seat_view kept).out ≡ []
    pub seen : All (λ q. AtMost (seat_view q).seen (seat_view kept).seen) gathered

  pub gathering-one : (id : TableId) (all ps : List (Pass T O)) (p : Pass T O) → all ≡ ps ++ p ∷ []
      → AreIdle id (base_of all) (length all) all → IsGathering id all ps p
  gathering-one id all ps p is idle =
      let here : AreIdle id (base_of all) (length all) (ps ++ p ∷ []) = subst (AreIdle id (base_of all) (length all)) is idle in
      let last = idle-last id (base_of all) (length all) ps p here in
      record {
        idle = idle-front id (base_of all) (length all) ps (p ∷ []) here;
        gathered = p ∷ [];
        parts = is;
        own = last.own;
        count = last.alone;
        total = last.total;
        base = last.base;
        free = last.free;
        done = last.work;
        seen = All-cons (λ q. AtMost (seat_view q).seen (seat_view p).seen) p [] (at_most_itself (seat_view p).seen) (All-nil (λ q. AtMost (seat_view q).seen (seat_view p).seen));
      }

  -- where the last of those left comes next
  pub gathering-last : (id : TableId) (all now ps : List (Pass T O)) (p kept : Pass T O) → now ≡ ps ++ p ∷ []
      → IsGathering id all now kept → IsIdle id (base_of all) (length all) p
  gathering-last id all now ps p kept is g = idle-last id (base_of all) (length all) ps p (subst (AreIdle id (base_of all) (length all)) is g.idle)

  pub gathering-more : (id : TableId) (all now ps : List (Pass T O)) (p kept after : Pass T O) → now ≡ ps ++ p ∷ []
      → IsGathering id all now kept → IsSeatOf id after → seat_view after ≡ after_join (seat_view kept) (seat_view p)
      → IsGathering id all ps after
  gathering-more id all now ps p kept after is g own joined =
      let here : AreIdle id (base_of all) (length all) (ps ++ p ∷ []) = subst (AreIdle id (base_of all) (length all)) is g.idle in
      let last = idle-last id (base_of all) (length all) ps p here in
      let v : View O = seat_view after in
      let seen : v.seen ≡ greatest (seat_view kept).seen (seat_view p).seen = ap (λ (x : View O). x.seen) joined in
      record {
        idle = idle-front id (base_of all) (length all) ps (p ∷ []) here;
        gathered = p ∷ g.gathered;
        parts = g.parts ∙ (ap (λ (l : List (Pass T O)). l ++ g.gathered) is ∙ append_assoc ps (p ∷ []) g.gathered);
        own = own;
        count = omega (arith, ap (λ (x : View O). length x.numbers) joined, length-append (seat_view kept).numbers (seat_view p).numbers, last.alone, g.count);
        total = ap (λ (x : View O). x.total) joined ∙ g.total;
        base = ap (λ (x : View O). x.base) joined ∙ g.base;
        free = ap (λ (x : View O). x.holding) joined ∙ g.free;
        done = ap (λ (x : View O). x.out) joined ∙ g.done;
        seen = All-cons (λ q. AtMost (seat_view q).seen v.seen) p g.gathered
            (subst (AtMost (seat_view p).seen) (sym seen) (greatest_right (seat_view kept).seen (seat_view p).seen))
            (λ k d short. at_most_trans (seat_view (slice_index_or g.gathered k d)).seen (seat_view kept).seen v.seen (g.seen k d short) (subst (AtMost (seat_view kept).seen) (sym seen) (greatest_left (seat_view kept).seen (seat_view p).seen)));
      }

  pub gathering-all : (id : TableId) (all now : List (Pass T O)) (kept : Pass T O) → IsGathering id all now kept → now ≡ []
      → IsGathered id all kept
  gathering-all id all now kept g none =
      let whole : all ≡ g.gathered = g.parts ∙ ap (λ (l : List (Pass T O)). l ++ g.gathered) none in
      record {
        own = g.own;
        whole = g.count ∙ ap (λ (l : List (Pass T O)). length l) (sym whole);
        total = g.total;
        base = g.base;
        free = g.free;
        done = g.done;
        seen = subst (All (λ q. AtMost (seat_view q).seen (seat_view kept).seen)) (sym whole) g.seen;
      }

module _ {T O : Type 0} (origin : T → O) (marks : T → List ℕ) where
  -- the value at the end
  pub ends : (id : TableId) (all : List (Pass T O)) (kept : Pass T O) (words : List ℕ) (slots : List (Option T)) (back : Option T)
      → IsGathered id all kept → 0 < length all
      → Final (Seen (LockRule origin marks) kept.seat.id (seat_view kept)) words slots → get_elem? slots 0 ≡ some back
      → (value : T) × (back ≡ Some value) × (Some (origin value) ≡ base_of all) × NoneIsInWork (marks value) × All (λ q. AtMost (seat_view q).seen (marks value)) all
  ends id all kept words slots back g some_seat f at =
      let s = f.0 in
      let t = closes origin marks s f.1.0 kept.seat.id (seat_view kept) f.1.1 (omega (arith, g.whole)) (g.whole ∙ sym g.total) g.free g.done in
      let here : get_elem? slots 0 ≡ some (Some t.0) = f.4 0 (Some t.0) t.1 in (
        t.0,
        some-injective back (Some t.0) (sym at ∙ here),
        t.2 ∙ g.base,
        t.3,
        λ k d short. at_most_trans (seat_view (slice_index_or all k d)).seen (seat_view kept).seen (marks t.0) (g.seen k d short) t.4,
      )
