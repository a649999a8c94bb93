-- What the exchange of a pair keeps.
use Rattle.std.proofs.Common.{arith, ◌≡◌, inl, inr, ◌⊎◌, ℕ, ◌+◌, ◌-◌, ◌*◌, ◌<◌, ◌≤◌, ◌≢◌, Bool, true, false, not, cond, List, [], length, map, get_or, set, All, Option, Some, None, Global, refl, sym, ap, ap₂, ◌∙◌, subst}
use Rattle.std.specs.Prelude.{IfSome, IsSomeAnd, is_some, ◌==◌, Box}
use Rattle.std.specs.Box.{with_value}
use Rattle.std.specs.Arc.{arc_value}
use Rattle.std.proofs.lemmas.Bool.Decides.{eqb_tells}
use Rattle.std.proofs.lemmas.List.{map-set, length-map, length-set, get_or-set_other, get_or_default}
use Rattle.scalar_rule.specs.Epoch.{has_turn, has_partner, partner, pair_of, side}
use Rattle.scalar_rule.specs.Exchange.{drawn_pair}
use Rattle.scalar_rule.specs.Ragged.{ready, arrived, generators}
use Rattle.scalar_rule.specs.Plan.{Plan, pairs_of}
use Rattle.scalar_rule.specs.declared.sample.PlainSlot.{PlainSlot}
use Rattle.scalar_rule.specs.declared.sample.PlainPair.{PlainPair}
use Rattle.scalar_rule.specs.declared.sample.Record.{Record}
use Rattle.scalar_rule.proofs.SlotPartners.{sides, low-partner, high-partner, Back, back}
use Rattle.scalar_rule.proofs.UnevenContents.{generators-idle, generators-turned, ready-settled}
use Rattle.scalar_rule.proofs.UnevenReached.{pair-known}
use Rattle.plane_sweep.specs.Packed.{part_slot, part_pair, FitsDuo, ArePairGenerators, PermutesAt}
use Rattle.plane_sweep.specs.declared.stand.PairWheels.{PairWheels}
use Rattle.exchange_board.specs.declared.origin.Origin.{Origin}
use Rattle.slot_steps.specs.declared.totals.Totals.{Totals}
use Rattle.exchange_board.specs.declared.home.Home.{Home}
use Rattle.exchange_board.specs.declared.board.Slot.{Slot}
use Rattle.exchange_board.specs.declared.board.Board.TheInside as board
use Rattle.exchange_board.specs.declared.job.Swept.TheInside as swept
use Rattle.exchange_board.specs.Views.{Stage, BoardView, JobView, place_at, ready_at, arrived_at}
use Rattle.exchange_board.specs.Content.{plan_of, slots_in, starts, started, taken_before, pair_in, KeepsRows}
use Rattle.exchange_board.specs.Machine.{Ruled, epochs, phases, numbers, begun, taken}
use Rattle.exchange_board.specs.JobKeeps.{swept_view}
use Rattle.slot_steps.specs.Totals.{AreTotals}
use Rattle.exchange_board.specs.Meeting.{half, CanMeet, KeepsPage, Met}
use Rattle.exchange_board.specs.BoardKeeps.{phase_of, place_of, places_of, board_view, rule_content, AtHome, KeepsSlot, content_at, KeepsBoard}
use Rattle.exchange_board.proofs.Machines.{TwoMoved, settled-rule}
use Rattle.exchange_board.proofs.RowPlaces.{set-here, Recorded, rows-written}
use Rattle.plane_sweep.proofs.LabelSteps.{HaveSameLabels, same-labels, exchange-permutes}
use Rattle.exchange_board.proofs.Keeping.{two-set, homes-set, place-read, places-long, taken-home}
use Rattle.exchange_board.proofs.Arriving.{Coming, known-of, Written, value-is, came-labels, taken-same}
use Rattle.std.proofs.lemmas.Bool.{not_from_false, not_from_true}

abbrev waiting : Bool → ℕ
waiting a = cond a 2 0

waits-told : (h : Option Totals) → waiting (is_some h) ≡ 2 → is_some h ≡ true
waits-told None h = absurd (omega arith)
waits-told (Some z) h = refl

waiting-home : (h : Option (Box Home Global)) → phase_of h ≡ 2 → (m : Box Home Global) × (h ≡ Some m) × (is_some m.value.totals ≡ true)
waiting-home None h = absurd (omega arith)
waiting-home (Some m) h = (m, refl, waits-told m.value.totals h)

pub some-and : (h : Option (Box Home Global)) (P : Box Home Global → Type 0) → IsSomeAnd h P → (z : Box Home Global) × (h ≡ Some z) × P z
some-and None P p = absurd p
some-and (Some z) P p = (z, refl, p)

pub and-some : (h : Option (Box Home Global)) (m : Box Home Global) (P : Box Home Global → Type 0) → h ≡ Some m → P m → IsSomeAnd h P
and-some h m P is p = subst (λ x. IsSomeAnd x P) (sym is) p

side-half : (plan : Plan) (b e t : ℕ) (pair : PlainPair) (own other : PlainSlot) → side plan b e t pair own other ≡ half plan b (pair_of t e) (has_turn t e) pair own other
unfolding side
side-half plan b e t pair own other = refl

half-same : (plan : Plan) (b k k' : ℕ) (a a' : Bool) (w w' : PlainPair) (x x' y y' : PlainSlot) → k ≡ k' → a ≡ a' → w ≡ w' → x ≡ x' → y ≡ y' → half plan b k a w x y ≡ half plan b k' a' w' x' y'
half-same plan b k k' a a' w w' x x' y y' ek ea ew ex ey = rw (ek, ea, ew, ex, ey) refl

-- the pair of t and u at e, where both are at e
pub record PairAt (o : Origin) (ps : List Stage) (t u e k : ℕ) : Type 0 where
  pub known : k + 1 < slots_in o
  pub epoch : epochs ps k ≡ e
  pub low : has_turn k e ≡ true
  pub since : started o k ≤ 4 * e + 2
  pub one_of : (k ≡ t) ⊎ (k ≡ u)
  pub other : (j : ℕ) → (j ≡ t) ⊎ (j ≡ u) → j ≢ k → has_turn j e ≡ false

pair-at : (o : Origin) (ps : List Stage) (t u e : ℕ) → t < slots_in o → has_partner (slots_in o) t e ≡ true → u ≡ partner t e → Back (slots_in o) t e u
    → epochs ps t ≡ e → epochs ps u ≡ e → started o t ≤ 4 * e + 2 → started o u ≤ 4 * e + 2 → PairAt o ps t u e (pair_of t e)
pair-at o ps t u e known has u_is bk et eu st su = elim (sides t e) [
  | inl l ↦
      let here : PairAt o ps t u e t = record {
        known = low-partner (slots_in o) t e l has;
        epoch = et;
        low = l.low;
        since = st;
        one_of = inl refl;
        other = λ j c n. elim c [ inl a ↦ absurd (n a) | inr a ↦ subst (λ i. has_turn i e ≡ false) (sym a) (bk.low ∙ not_from_true _ l.low) ];
      } in subst (λ k. PairAt o ps t u e k) (sym l.pair_is) here
  | inr l ↦
      let pos = high-partner (slots_in o) t e l has in
      let u_at : u ≡ t - 1 = u_is ∙ l.partner_is in
      let here : PairAt o ps t u e u = record {
        known = omega arith;
        epoch = eu;
        low = bk.low ∙ not_from_false _ l.low;
        since = su;
        one_of = inr refl;
        other = λ j c n. elim c [ inl a ↦ subst (λ i. has_turn i e ≡ false) (sym a) l.low | inr a ↦ absurd (n a) ];
      } in subst (λ k. PairAt o ps t u e k) (u_at ∙ sym l.pair_is) here
]

colder-pair : (t u e : ℕ) (low : Bool) → low ≡ has_turn t e → u ≡ partner t e → cond low t u ≡ pair_of t e
colder-pair t u e low is other = elim (sides t e) [
  | inl l ↦ ap (λ (a : Bool). cond a t u) (is ∙ l.low) ∙ sym l.pair_is
  | inr l ↦ ap (λ (a : Bool). cond a t u) (is ∙ l.low) ∙ (other ∙ (l.partner_is ∙ sym l.pair_is))
]

-- the slot that comes back finds its partner u, which waits
pub record FindsPartner (b : board.Inside) (s : swept.Inside) (u : ℕ) : Type 0 where
  pub has : has_partner (length (places_of b)) s.slot s.epoch ≡ true
  pub is : u ≡ partner s.slot s.epoch
  pub place : place_at (places_of b) u ≡ arrived_at s.epoch

-- it is what the settlement asks for
pub finds-of : (b : board.Inside) (s : swept.Inside) (v : BoardView) (w : JobView) (u : ℕ) → board_view b ≡ v → swept_view s ≡ w
    → has_partner (length v.places) w.slot w.epoch ≡ true → u ≡ partner w.slot w.epoch → place_at v.places u ≡ arrived_at w.epoch → FindsPartner b s u
finds-of b s v w u board_is swept_is has is place = record {
  has = rw (← board_is, ← swept_is) at has;
  is = rw (← swept_is) at is;
  place = rw (← board_is, ← swept_is) at place;
}

-- the partner's home before the exchange
pub record Mate (o : Origin) (u e : ℕ) (mate : Slot) : Type 0 where
  pub m : Box Home Global
  pub was : mate.home ≡ Some m
  pub epoch : mate.epoch ≡ e
  pub same : arc_value m.value.share ≡ o
  pub right : (i : ℕ) → i < 64 → part_slot (plan_of o).size i m.value.duo ≡ arrived (plan_of o) (starts o i) e u
  pub can : CanMeet (plan_of o) m.value

pub mate-of : (b : board.Inside) (u e : ℕ) (mate : Slot) → KeepsBoard b → u < length b.slots → place_at (places_of b) u ≡ arrived_at e → mate ≡ get_or b.slots u mate
    → Mate (arc_value b.origin) u e mate
mate-of b u e mate keeps known place read =
    let o : Origin = arc_value b.origin in
    let at : place_of mate ≡ arrived_at e = sym (place-read b u mate known read) ∙ place in
    let epoch : mate.epoch ≡ e = ap (λ (p : Stage). p.epoch) at in
    let phase : phase_of mate.home ≡ 2 = ap (λ (p : Stage). p.phase) at in
    let h = waiting-home mate.home phase in
    let home = taken-home b u mate h.0 keeps known read h.1 in
    record {
      m = h.0;
      was = h.1;
      epoch = epoch;
      same = home.same;
      right = λ i small. home.right i small ∙ ap₂ (λ x a. rule_content o i u x a) epoch h.2;
      can = record { waits = h.2; fits = home.fits; totals = home.totals };
    }

-- what the exchange of s with the slot mate does
pub record Exchanged (plan : Plan) (s : swept.Inside) (k : ℕ) (mate y : Slot) (own : Home) (low : Bool) (was now : PairWheels) : Type 0 where
  pub epoch : y.epoch ≡ mate.epoch + 1
  pub there : (m : Box Home Global) → mate.home ≡ Some m → IsSomeAnd y.home (Met plan k low was m s.home.value.duo)
  pub own_is : (m : Box Home Global) → mate.home ≡ Some m → (b : ℕ) → b < 64 → part_slot plan.size b own.duo ≡ half plan b k low (part_pair was) (part_slot plan.size b s.home.value.duo) (part_slot plan.size b m.value.duo)
  pub wheels : part_pair now ≡ drawn_pair (part_pair was)
  pub own_fits : FitsDuo plan.size own.duo
  pub own_kept : KeepsPage s.home.value own
  pub wheels_fit : ArePairGenerators now

-- partners at new places, the pair's generators and the records
abbrev pub two : board.Inside → ℕ → Slot → ℕ → Slot → List PairWheels → List Record → board.Inside
two b u y t x ws rs = record {
  origin = b.origin;
  slots = set (set b.slots u y) t x;
  pairs = ws;
  records = rs;
  left = b.left;
  duos = b.duos;
  pending = b.pending;
  places = b.places;
}

abbrev pub swapped : swept.Inside → Home → Slot
swapped s own = record { epoch = s.epoch + 1; home = Some (with_value s.home own) }

-- a slot's place afterwards
pub met-place : (e : ℕ) (y : Slot) (z : Box Home Global) → y.home ≡ Some z → z.value.totals ≡ None → y.epoch ≡ e + 1 → place_of y ≡ ready_at (e + 1)
met-place e y z is rests epoch =
    let phase : phase_of y.home ≡ 0 = ap phase_of is ∙ ap (λ (h : Option Totals). waiting (is_some h)) rests in
    let make : ℕ → ℕ → Stage = λ i j. record { epoch = i; phase = j } in
    ap₂ make epoch phase

all-set : (ws : List PairWheels) (k : ℕ) (w : PairWheels) → k < length ws → ArePairGenerators w → All ArePairGenerators ws → All ArePairGenerators (set ws k w)
all-set ws k w h fits all = λ j d below. elim (eqb_tells j k) [
  | inl a ↦ let P : PairWheels → Type 0 = λ x. ArePairGenerators x in subst P (sym (set-here ws k j w d a.1 h)) fits
  | inr a ↦ let P : PairWheels → Type 0 = λ x. ArePairGenerators x in subst P (sym (get_or-set_other ws k j w d a.1)) (all j d (rw length-set at below))
]

pub settled-keeps : (b : board.Inside) (s : swept.Inside) (plan : Plan) (rs : List Record) (u k : ℕ) (was now : PairWheels) (mate y : Slot) (own : Home) (low : Bool)
    → Coming b s → plan ≡ plan_of (arc_value b.origin) → Written b s rs → FindsPartner b s u
    → mate ≡ get_or b.slots u mate → low ≡ has_turn s.slot s.epoch → k ≡ cond low s.slot u → was ≡ get_or b.pairs k was → Exchanged plan s k mate y own low was now
    → KeepsBoard (two b u y s.slot (swapped s own) (set b.pairs k now) rs)
settled-keeps b s plan rs u k was now mate y own low c plan_is written finds read low_is k_at was_is exchanged =
    let has = finds.has in
    let u_is = finds.is in
    let place = finds.place in
    let k_is : k ≡ pair_of s.slot s.epoch = k_at ∙ colder-pair s.slot u s.epoch low low_is u_is in
    let o : Origin = arc_value b.origin in
    let p : Plan = plan_of o in
    let ps : List Stage = places_of b in
    let t : ℕ = s.slot in
    let e : ℕ = s.epoch in
    let new : Slot = swapped s own in
    let f = known-of b s c in
    let keeps = c.keeps in
    let X : Plan → Type 0 = λ q. Exchanged q s k mate y own low was now in
    let x : Exchanged p s k mate y own low was now = subst X plan_is exchanged in
    let long : length ps ≡ slots_in o = places-long b keeps in
    let has_here : has_partner (slots_in o) t e ≡ true = subst (λ n. has_partner n t e ≡ true) long has in
    let has_there : has_partner (slots_in o) t (epochs ps t) ≡ true = subst (λ n. has_partner (slots_in o) t n ≡ true) (sym f.epoch) has_here in
    let bk : Back (slots_in o) t e u = subst (λ j. Back (slots_in o) t e j) (sym u_is) (back (slots_in o) t e f.in_range has_here) in
    let u_known : u < length b.slots = omega (arith, bk.known, keeps.slots_long) in
    let m = mate-of b u e mate keeps u_known place read in
    let z = some-and y.home (Met p k low was m.m s.home.value.duo) (x.there m.m m.was) in
    let y_epoch : y.epoch ≡ e + 1 = x.epoch ∙ ap (λ i. i + 1) m.epoch in
    let y_place : place_of y ≡ ready_at (e + 1) = met-place e y z.0 z.1 z.2.rests y_epoch in
    let new_place : place_of new ≡ ready_at (e + 1) = met-place e new (with_value s.home own) refl x.own_kept.spent refl in
    let u_epoch : epochs ps u ≡ e = ap (λ (q : Stage). q.epoch) place in
    let u_phase : phases ps u ≡ 2 = ap (λ (q : Stage). q.phase) place in
    let u_since : started o u ≤ 4 * e + 2 = omega (arith, keeps.ruled.since u bk.known) in
    let t_since : started o t ≤ 4 * e + 2 = omega (arith, f.later) in
    let at : PairAt o ps t u e k = subst (λ j. PairAt o ps t u e j) (sym k_is) (pair-at o ps t u e f.in_range has_here u_is bk f.epoch u_epoch t_since u_since) in
    let k_in : k < length b.pairs = omega (arith, at.known, keeps.pairs_long) in
    let pair_there : (i : ℕ) → part_pair was ≡ generators p (starts o i) k e = λ i. ap part_pair (was_is ∙ get_or_default b.pairs k was (record { first = []; second = [] }) k_in) ∙ (keeps.pairs k i at.known ∙ ap (generators p (starts o i) k) at.epoch) in
    let pair_t : (i : ℕ) → part_pair was ≡ generators p (starts o i) (pair_of t e) e = λ i. pair_there i ∙ ap (λ j. generators p (starts o i) j e) k_is in
    let pair_u : (i : ℕ) → part_pair was ≡ generators p (starts o i) (pair_of u e) e = λ i. pair_t i ∙ ap (λ j. generators p (starts o i) j e) (sym bk.pair_is) in
    let low_u : not low ≡ has_turn u e = ap not low_is ∙ sym bk.low in
    let k_u : k ≡ pair_of u e = k_is ∙ sym bk.pair_is in
    let ready_t : (i : ℕ) → ready p (starts o i) (e + 1) t ≡ side p i e t (generators p (starts o i) (pair_of t e) e) (arrived p (starts o i) e t) (arrived p (starts o i) e u) = λ i.
    ready-settled p (starts o i) e t t_since has_here ∙ ap (λ j. side p i e t (generators p (starts o i) (pair_of t e) e) (arrived p (starts o i) e t) (arrived p (starts o i) e j)) (sym u_is) in
    let ready_u : (i : ℕ) → ready p (starts o i) (e + 1) u ≡ side p i e u (generators p (starts o i) (pair_of u e) e) (arrived p (starts o i) e u) (arrived p (starts o i) e t) = λ i.
    ready-settled p (starts o i) e u u_since bk.has ∙ ap (λ j. side p i e u (generators p (starts o i) (pair_of u e) e) (arrived p (starts o i) e u) (arrived p (starts o i) e j)) bk.partner_is in
    let qs : List Stage = set (set ps u (ready_at (e + 1))) t (ready_at (e + 1)) in
    let b' : board.Inside = two b u y t new (set b.pairs k now) rs in
    let places : places_of b' ≡ qs =
    map-set place_of (set b.slots u y) t new ∙ ap₂ (λ (l : List Stage) (q : Stage). set l t q) (map-set place_of b.slots u y ∙ ap (λ (q : Stage). set ps u q) y_place) new_place in
    let E' : ℕ → ℕ = epochs qs in
    let P' : ℕ → ℕ = phases qs in
    let moved = two-set ps t u (e + 1) (rw long f.in_range) (rw long bk.known) in
    let moved_there : TwoMoved t u (epochs ps t + 1) (epochs ps) (phases ps) E' P' = subst (λ i. TwoMoved t u (i + 1) (epochs ps) (phases ps) E' P') (sym f.epoch) moved in
    let u_is_there : u ≡ partner t (epochs ps t) = subst (λ i. u ≡ partner t i) (sym f.epoch) u_is in
    let home_t : KeepsSlot o t new = record {
      same = ap arc_value x.own_kept.share ∙ c.same;
      fits = x.own_fits;
      right = λ i h. x.own_is m.m m.was i h ∙ (half-same p i k (pair_of t e) low (has_turn t e) _ _ _ _ _ _ k_is low_is (pair_t i) (f.right i h) (m.right i h)
          ∙ (sym (side-half p i e t _ _ _) ∙ (sym (ready_t i) ∙ ap (rule_content o i t (e + 1)) (sym (ap is_some x.own_kept.spent)))));
      totals = λ sums is. absurd (let w : None ≡ Some sums = sym x.own_kept.spent ∙ is in cc);
    } in
    let home_z : AtHome o u y.epoch z.0.value = record {
      same = z.2.same ∙ m.same;
      fits = z.2.fits;
      right = λ i h. z.2.right i h ∙ (half-same p i k (pair_of u e) (not low) (has_turn u e) _ _ _ _ _ _ k_u low_u (pair_u i) (m.right i h) (f.right i h)
          ∙ (sym (side-half p i e u _ _ _) ∙ (sym (ready_u i) ∙ ap₂ (λ j a. rule_content o i u j a) (sym y_epoch) (sym (ap is_some z.2.rests)))));
      totals = λ sums is. absurd (let w : None ≡ Some sums = sym z.2.rests ∙ is in cc);
    } in
    let home_u : KeepsSlot o u y = subst (λ (d : Option (Box Home Global)). IfSome d (λ w. AtHome o u y.epoch w.value)) (sym z.1) home_z in
    let R : List Stage → Type 0 = λ l. Ruled (slots_in o) o.window.until (started o) (epochs l) (phases l) in
    let W : List Stage → Type 0 = λ l. KeepsRows o (numbers l) rs in
    let K : List Stage → Type 0 = λ l. (j i : ℕ) → j + 1 < slots_in o → part_pair (pair_in (set b.pairs k now) j) ≡ generators p (starts o i) j (epochs l j) in
    let L : List Stage → Type 0 = λ l. (i : ℕ) → i < 64 → PermutesAt (slots_in o) (content_at o (epochs l) (phases l) i) in
    let T : List Stage → Type 0 = λ l. taken l + b.left ≡ taken_before o + o.window.takes in
    let pairs : K qs = λ j i h. elim (eqb_tells j k) [
      | inl a ↦
          let e_new : E' j ≡ e + 1 = elim (moved j) [ inl d ↦ d.1 | inr d ↦ absurd (elim at.one_of [ inl g ↦ d.0 (a.1 ∙ g) | inr g ↦ d.1 (a.1 ∙ g) ]) ] in
          ap part_pair (set-here b.pairs k j now (record { first = []; second = [] }) a.1 k_in)
          ∙ (x.wheels ∙ (ap drawn_pair (pair_there i) ∙ (sym (generators-turned p (starts o i) k e at.low (omega (arith, at.since))) ∙ (ap (λ n. generators p (starts o i) n (e + 1)) (sym a.1) ∙ ap (generators p (starts o i) j) (sym e_new)))))
      | inr a ↦ ap part_pair (get_or-set_other b.pairs k j now (record { first = []; second = [] }) a.1) ∙ (keeps.pairs j i h ∙ elim (moved j) [
        | inl d ↦
            let e_old : epochs ps j ≡ e = elim d.0 [ inl g ↦ ap (epochs ps) g ∙ f.epoch | inr g ↦ ap (epochs ps) g ∙ u_epoch ] in
            ap (generators p (starts o i) j) e_old ∙ (sym (generators-idle p (starts o i) j e (at.other j d.0 a.1)) ∙ ap (generators p (starts o i) j) (sym d.1))
        | inr d ↦ ap (generators p (starts o i) j) (sym d.2)
      ])
    ] in
    let moved_t : (E' t ≡ e + 1) × (P' t ≡ 0) = elim (moved t) [ inl d ↦ (d.1, d.2) | inr d ↦ absurd (d.0 refl) ] in
    let moved_u : (E' u ≡ e + 1) × (P' u ≡ 0) = elim (moved u) [ inl d ↦ (d.1, d.2) | inr d ↦ absurd (d.1 refl) ] in
    let labels : L qs = λ i h.
    let F : ℕ → PlainSlot = content_at o (epochs ps) (phases ps) i in
    let G : ℕ → PlainSlot = content_at o E' P' i in
    let at_t : G t ≡ ready p (starts o i) (e + 1) t = ap₂ (λ j a. rule_content o i t j (a == 2)) moved_t.0 moved_t.1 in
    let at_u : G u ≡ ready p (starts o i) (e + 1) u = ap₂ (λ j a. rule_content o i u j (a == 2)) moved_u.0 moved_u.1 in
    let was_t = came-labels b s f i in
    let was_t' : HaveSameLabels (F t) (arrived p (starts o i) e t) = record { first = sym was_t.first; second = sym was_t.second } in
    let was_u : HaveSameLabels (F u) (arrived p (starts o i) e u) = same-labels _ _ (ap₂ (λ j a. rule_content o i u j (a == 2)) u_epoch u_phase) in
    let rest : (j : ℕ) → j ≢ t → j ≢ u → HaveSameLabels (G j) (F j) = λ j nt nu. elim (moved j) [
      | inl d ↦ absurd (elim d.0 [ inl g ↦ nt g | inr g ↦ nu g ])
      | inr d ↦ same-labels _ _ (ap₂ (λ a v. rule_content o i j a (v == 2)) d.2 d.3)
    ] in
    elim (sides t e) [
      | inl l ↦ exchange-permutes p (slots_in o) i e t u (generators p (starts o i) (pair_of t e) e) F G _ _ f.in_range bk.known l.low (bk.low ∙ not_from_true _ l.low) bk.pair_is was_t' was_u
          (at_t ∙ ready_t i) (at_u ∙ (ready_u i ∙ ap (λ w. side p i e u w (arrived p (starts o i) e u) (arrived p (starts o i) e t)) (ap (λ n. generators p (starts o i) n e) bk.pair_is))) rest (keeps.labels i h)
      | inr l ↦ exchange-permutes p (slots_in o) i e u t (generators p (starts o i) (pair_of u e) e) F G _ _ bk.known f.in_range (bk.low ∙ not_from_false _ l.low) l.low (sym bk.pair_is) was_u was_t'
          (at_u ∙ ready_u i) (at_t ∙ (ready_t i ∙ ap (λ w. side p i e t w (arrived p (starts o i) e t) (arrived p (starts o i) e u)) (ap (λ n. generators p (starts o i) n e) (sym bk.pair_is)))) (λ j nu nt. rest j nt nu) (keeps.labels i h)
    ] in
    let recorded_two : Recorded t e (numbers ps) (numbers qs) = λ j. elim (moved j) [
      | inl d ↦ elim d.0 [
        | inl g ↦ let e1 : epochs ps j ≡ e = ap (epochs ps) g ∙ f.epoch in let p1 : phases ps j ≡ 1 = ap (phases ps) g ∙ f.phase in inl (g, omega arith, omega arith)
        | inr g ↦ let e1 : epochs ps j ≡ e = ap (epochs ps) g ∙ u_epoch in let p1 : phases ps j ≡ 2 = ap (phases ps) g ∙ u_phase in inr (λ q. bk.other (sym g ∙ q), omega arith)
      ]
      | inr d ↦ inr (d.0, omega arith)
    ] in
    let qlong : length qs ≡ length ps = length-set (set ps u (ready_at (e + 1))) t (ready_at (e + 1)) ∙ length-set ps u (ready_at (e + 1)) in
    let taken_is : taken qs ≡ taken ps = taken-same ps qs qlong (λ j. elim (moved j) [
      | inl d ↦ elim d.0 [
        | inl g ↦ let e1 : epochs ps j ≡ e = ap (epochs ps) g ∙ f.epoch in let p1 : phases ps j ≡ 1 = ap (phases ps) g ∙ f.phase in let d1 = d.1 in let d2 = d.2 in omega arith
        | inr g ↦ let e1 : epochs ps j ≡ e = ap (epochs ps) g ∙ u_epoch in let p1 : phases ps j ≡ 2 = ap (phases ps) g ∙ u_phase in let d1 = d.1 in let d2 = d.2 in omega arith
      ]
      | inr d ↦ ap₂ (λ a v. begun (4 * a + v)) d.2 d.3
    ]) in
    record {
      lawful = keeps.lawful;
      slots_long = length-set (set b.slots u y) t new ∙ (length-set b.slots u y ∙ keeps.slots_long);
      pairs_long = length-set b.pairs k now ∙ keeps.pairs_long;
      records_long = written.sized ∙ keeps.records_long;
      ruled = subst R (sym places) (settled-rule (slots_in o) o.window.until (started o) (epochs ps) (phases ps) E' P' t u keeps.ruled moved_there f.in_range f.phase has_there u_is_there u_phase (u_epoch ∙ sym f.epoch));
      homes = homes-set o (set b.slots u y) t new (rw length-set f.known) home_t (homes-set o b.slots u y u_known home_u keeps.homes);
      pairs = subst K (sym places) pairs;
      pairs_fit = all-set b.pairs k now k_in x.wheels_fit keeps.pairs_fit;
      labels = subst L (sym places) labels;
      taken = subst T (sym places) (omega (arith, taken_is, keeps.taken));
      rows = subst W (sym places) (rows-written o t e _ b.records rs (numbers ps) (numbers qs) keeps.lawful.base.some_every f.in_range f.from written recorded_two (value-is b s c f) keeps.rows);
      duos = keeps.duos;
      pending = keeps.pending;
      stops = keeps.stops;
    }

pub partner-known : (n t e u : ℕ) → t < n → has_partner n t e ≡ true → u ≡ partner t e → u < n
partner-known n t e u known has is = subst (λ j. j < n) (sym is) (back n t e known has).known

-- the view after a settlement
pub settled-view : (b : board.Inside) (s : swept.Inside) (plan : Plan) (u k : ℕ) (was now : PairWheels) (mate y : Slot) (own : Home) (low : Bool) → Coming b s → FindsPartner b s u
    → mate ≡ get_or b.slots u mate → Exchanged plan s k mate y own low was now
    → map place_of (set (set b.slots u y) s.slot (swapped s own)) ≡ set (set (places_of b) u (ready_at (s.epoch + 1))) s.slot (ready_at (s.epoch + 1))
settled-view b s plan u k was now mate y own low c finds read x =
    let e : ℕ = s.epoch in
    let known = partner-known (length (places_of b)) s.slot e u c.known finds.has finds.is in
    let m = mate-of b u e mate c.keeps (rw length-map at known) finds.place read in
    let z = some-and y.home (Met plan k low was m.m s.home.value.duo) (x.there m.m m.was) in
    let y_place : place_of y ≡ ready_at (e + 1) = met-place e y z.0 z.1 z.2.rests (x.epoch ∙ ap (λ i. i + 1) m.epoch) in
    let own_place : place_of (swapped s own) ≡ ready_at (e + 1) = met-place e (swapped s own) (with_value s.home own) refl x.own_kept.spent refl in
    map-set place_of (set b.slots u y) s.slot (swapped s own) ∙ ap₂ (λ (l : List Stage) (q : Stage). set l s.slot q) (map-set place_of b.slots u y ∙ ap (λ (q : Stage). set (places_of b) u q) y_place) own_place

-- a content with its sums may be exchanged
pub can-meet : (plan : Plan) (h : Home) → FitsDuo plan.size h.duo → is_some h.totals ≡ true → IfSome h.totals (AreTotals plan h.duo) → CanMeet plan h
can-meet plan h fits waits counted = record { waits = waits; fits = fits; totals = λ sums is. subst (λ y. IfSome y (AreTotals plan h.duo)) is counted }

-- what the exchange asks of the board
pub record CanSettle (b : board.Inside) (s : swept.Inside) (plan : Plan) (mate : Slot) (was : PairWheels) (k : ℕ) : Type 0 where
  pub short : mate.epoch < 1000000000
  pub next : s.epoch < 1000000000
  pub own : CanMeet plan s.home.value
  pub can : IsSomeAnd mate.home (λ m. CanMeet plan m.value)
  pub wheels : ArePairGenerators was
  pub pair : k < pairs_of plan

pub can-settle : (b : board.Inside) (s : swept.Inside) (plan : Plan) (u k : ℕ) (was : PairWheels) (mate : Slot) (low : Bool) → Coming b s → plan ≡ plan_of (arc_value b.origin) → FindsPartner b s u
    → mate ≡ get_or b.slots u mate → low ≡ has_turn s.slot s.epoch → k ≡ cond low s.slot u → was ≡ get_or b.pairs k was → CanSettle b s plan mate was k
can-settle b s plan u k was mate low c plan_is finds read low_is k_at was_is =
    let has = finds.has in
    let u_is = finds.is in
    let o : Origin = arc_value b.origin in
    let f = known-of b s c in
    let long : length (places_of b) ≡ slots_in o = places-long b c.keeps in
    let has_here : has_partner (slots_in o) s.slot s.epoch ≡ true = subst (λ n. has_partner n s.slot s.epoch ≡ true) long has in
    let bk : Back (slots_in o) s.slot s.epoch u = subst (λ j. Back (slots_in o) s.slot s.epoch j) (sym u_is) (back (slots_in o) s.slot s.epoch f.in_range has_here) in
    let u_known : u < length b.slots = omega (arith, bk.known, c.keeps.slots_long) in
    let m = mate-of b u s.epoch mate c.keeps u_known finds.place read in
    let k_is : k ≡ pair_of s.slot s.epoch = k_at ∙ colder-pair s.slot u s.epoch low low_is u_is in
    let k_in : k < pairs_of (plan_of o) = let z = pair-known (slots_in o) s.slot s.epoch f.in_range has_here in omega arith in
    let C : Plan → Type 0 = λ q. IsSomeAnd mate.home (λ z. CanMeet q z.value) in
    let M : Plan → Type 0 = λ q. CanMeet q s.home.value in
    let G : PairWheels → Type 0 = λ w. ArePairGenerators w in
    let K : Plan → Type 0 = λ q. k < pairs_of q in
    let until = c.keeps.lawful.until in let below = f.below in
    record {
      short = let e = m.epoch in omega arith;
      next = omega arith;
      own = subst M (sym plan_is) (can-meet (plan_of o) s.home.value f.fits (f.summed has_here) f.totals);
      can = subst C (sym plan_is) (and-some mate.home m.m (λ z. CanMeet (plan_of o) z.value) m.was m.can);
      wheels = subst G (sym was_is) (c.keeps.pairs_fit k was (omega (arith, c.keeps.pairs_long)));
      pair = subst K (sym plan_is) k_in;
    }
