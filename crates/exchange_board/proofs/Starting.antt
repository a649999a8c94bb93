-- The slots of a board that begins.
use Rattle.std.proofs.Common.{arith, ◌≡◌, inl, inr, ℕ, ◌+◌, ◌-◌, ◌*◌, ◌/◌, ◌%◌, ◌<◌, ◌≤◌, Bool, true, false, cond, List, [], ◌∷◌, ◌++◌, length, map, take, get_or, All, Option, Some, Global, refl, sym, ap, ap₂, ◌∙◌, subst}
use Rattle.std.specs.Prelude.{IfSome, is_some, ◌==◌, Box}
use Rattle.std.specs.Arc.{arc_value}
use Rattle.std.proofs.Math.ListN.{get_or-map as get_or-map_of}
use Rattle.std.proofs.lemmas.Bool.{cases_lt, eqb-false}
use Rattle.std.proofs.lemmas.List.{map_push, take_more, get_or_append_left, get_or_push, get_or-map, get_or_default, length-map}
use Rattle.spin_model.specs.Limits.{every_take}
use Rattle.scalar_rule.specs.Epoch.{slot_at, has_partner}
use Rattle.scalar_rule.specs.Ragged.{Position, generators}
use Rattle.scalar_rule.specs.Plan.{Plan, slots_of, IsLawfulPlan}
use Rattle.scalar_rule.specs.Positions.{position_in, done, turns, sum_below, floor_of, deepest_of}
use Rattle.scalar_rule.specs.declared.sample.PlainSlot.{PlainSlot}
use Rattle.scalar_rule.proofs.Extremes.{sum-same}
use Rattle.scalar_rule.proofs.SlotPartners.{turns-from}
use Rattle.scalar_rule.proofs.UnevenContents.{content-start, generators-from}
use Rattle.plane_sweep.specs.Packed.{part_slot, part_pair, FitsDuo, ArePairGenerators, PermutesAt}
use Rattle.plane_sweep.specs.Uneven.{place_at, position_of, positions_of, RaggedStandFits}
use Rattle.plane_sweep.proofs.Labels.{permutes-equal}
use Rattle.plane_sweep.specs.declared.replica.Duo.{Duo}
use Rattle.plane_sweep.specs.declared.stand.PairWheels.{PairWheels}
use Rattle.plane_sweep.specs.declared.uneven.Place.{Place}
use Rattle.plane_sweep.specs.declared.uneven.RaggedStand.{RaggedStand}
use Rattle.exchange_board.specs.declared.origin.Origin.{Origin}
use Rattle.exchange_board.specs.declared.origin.Window.{Window}
use Rattle.exchange_board.specs.declared.home.Home.{Home}
use Rattle.exchange_board.specs.declared.board.Slot.{Slot}
use Rattle.exchange_board.specs.declared.board.Board.TheInside as board
use Rattle.exchange_board.specs.Answers.{start_place}
use Rattle.exchange_board.specs.BoardKeeps.{phase_of, place_of, places_of, rule_content, AtHome, KeepsSlot, content_at, KeepsBoard}
use Rattle.exchange_board.specs.Content.{plan_of, slots_in, starts, positions_in, started, taken_before, row_total, pair_in, KeepsRows, IsLawfulOrigin}
use Rattle.exchange_board.specs.Machine.{Ruled, epochs, phases, numbers, begun, recorded, taken}
use Rattle.exchange_board.specs.Opening.{Begins, AreFirst}
use Rattle.exchange_board.specs.Views.{Stage, ready_at, arrived_at}
use Rattle.exchange_board.specs.Views as views
use Rattle.exchange_board.proofs.RowPlaces.{rows-same}
use Rattle.exchange_board.proofs.Origins.{done-reach}
use Rattle.scalar_rule.proofs.UnevenReached.{bit-tells, phase-waits}
use Rattle.plane_sweep.proofs.LevelStands.{position-at}

pub kept-more : (o : Origin) (xs : List Slot) (v : Slot) (n : ℕ) → length xs ≡ n → KeepsSlot o n v
    → ((k : ℕ) (d : Slot) → k < n → KeepsSlot o k (get_or xs k d))
    → (k : ℕ) (d : Slot) → k < n + 1 → KeepsSlot o k (get_or (xs ++ v ∷ []) k d)
kept-more o xs v n sized here kept k d below =
    elim (cases_lt k n) [
      | inl less ↦ let P : Slot → Type 0 = λ s. KeepsSlot o k s in subst P (sym (get_or_append_left xs (v ∷ []) d k (omega arith))) (kept k d less)
      | inr not ↦
          let last : n ≡ k = omega arith in
          let P : Slot → Type 0 = λ s. KeepsSlot o k s in
          let Q : ℕ → Type 0 = λ j. KeepsSlot o j v in
          subst P (sym (get_or_push xs v d k (omega arith))) (subst Q last here)
    ]

pub placed-more : (places : List Place) (xs : List Slot) (v : Slot) (n : ℕ) → n < length places → place_of v ≡ start_place (place_at places n)
    → map place_of xs ≡ map start_place (take n places) → map place_of (xs ++ v ∷ []) ≡ map start_place (take (n + 1) places)
placed-more places xs v n h here before =
    map_push place_of xs v ∙ (ap₂ (λ (l : List Stage) (p : Stage). l ++ p ∷ []) before here
    ∙ (sym (map_push start_place (take n places) (place_at places n)) ∙ ap (map start_place) (sym (take_more places n _ h))))

started-phase : (e : ℕ) (a : Bool) → (let s : Stage = record { epoch = e; phase = cond a 2 0 } in s ≡ cond a (arrived_at e) (ready_at e))
started-phase e true = refl
started-phase e false = refl

-- a slot at the place where it begins
pub begun-place : (o : Origin) (s : Slot) (place : Place) (duo : Duo) (h : Box Home Global) → s.epoch ≡ place.epoch → s.home ≡ Some h → Begins o place duo h.value → place_of s ≡ start_place place
begun-place o s place duo h epoch home_is begins =
    let phase : phase_of s.home ≡ cond place.arrived 2 0 = ap phase_of home_is ∙ ap (λ (a : Bool). cond a 2 0) begins.waits in
    let make : ℕ → ℕ → Stage = λ i j. record { epoch = i; phase = j } in
    ap₂ make epoch phase ∙ started-phase place.epoch place.arrived

pub begun-slot : (o : Origin) (t : ℕ) (s : Slot) (place : Place) (duo : Duo) (h : Box Home Global) → IsLawfulOrigin o → t < slots_in o → place ≡ get_or o.base.places t place → duo ≡ get_or o.base.slots t duo
    → s.epoch ≡ place.epoch → s.home ≡ Some h → Begins o place duo h.value → KeepsSlot o t s
begun-slot o t s place duo h l known place_is duo_is epoch home_is begins =
    let at : position_in (positions_in o) t ≡ position_of place =
    position-at o.base.places t (omega (arith, l.base.places)) ∙ ap position_of (sym (place_is ∙ get_or_default o.base.places t place _ (omega (arith, l.base.places)))) in
    let F : Duo → Type 0 = λ d. FitsDuo (plan_of o).size d in
    let fits : FitsDuo (plan_of o).size duo = subst F (sym duo_is) (l.base.each_slot t duo (omega (arith, l.base.slots))) in
    let slot : (i : ℕ) → slot_at (starts o i).slots t ≡ part_slot (plan_of o).size i duo = λ i. get_or-map (part_slot (plan_of o).size i) o.base.slots t duo _ (omega (arith, l.base.slots)) ∙ ap (part_slot (plan_of o).size i) (sym duo_is) in
    let start : (i : ℕ) → rule_content o i t s.epoch (is_some h.value.totals) ≡ part_slot (plan_of o).size i duo = λ i.
    ap₂ (λ e a. rule_content o i t e a) (epoch ∙ sym (ap (λ (p : Position). p.epoch) at)) (begins.waits ∙ sym (ap (λ (p : Position). p.waits) at)) ∙ (content-start (plan_of o) (starts o i) t ∙ slot i) in
    let home : AtHome o t s.epoch h.value = record {
      same = begins.same;
      fits = subst F (sym begins.duo_is) fits;
      right = λ i small. ap (part_slot (plan_of o).size i) begins.duo_is ∙ sym (start i);
      totals = begins.totals;
    } in
    subst (λ (d : Option (Box Home Global)). IfSome d (λ w. AtHome o t s.epoch w.value)) (sym home_is) home

-- what is moved out of a list whose rest is as it was
pub moved-read : (contents base : List Duo) (t : ℕ) (x y : Duo) → x ≡ y → y ≡ get_or contents t y → ((k : ℕ) (d : Duo) → t ≤ k → get_or contents k d ≡ get_or base k d) → x ≡ get_or base t x
moved-read contents base t x y same read rest = same ∙ (read ∙ (ap (get_or contents t) (sym same) ∙ rest t x (omega arith)))

start-epoch-of : (e : ℕ) (a : Bool) → (start_place (record { epoch = e; arrived = a })).epoch ≡ e
start-epoch-of e true = refl
start-epoch-of e false = refl

start-phase-of : (e : ℕ) (a : Bool) → (start_place (record { epoch = e; arrived = a })).phase ≡ cond a 2 0
start-phase-of e true = refl
start-phase-of e false = refl

start-epoch : (p : Place) → (start_place p).epoch ≡ p.epoch
start-epoch p = start-epoch-of p.epoch p.arrived

start-phase : (p : Place) → (start_place p).phase ≡ cond p.arrived 2 0
start-phase p = start-phase-of p.epoch p.arrived

-- where the slots begin
pub begun-at : (o : Origin) (t : ℕ) → (epochs (map start_place o.base.places) t ≡ (position_in (positions_in o) t).epoch) × (phases (map start_place o.base.places) t ≡ cond (position_in (positions_in o) t).waits 2 0)
begun-at o t =
    let none : Place = record { epoch = 0; arrived = false } in
    let p : Place = get_or o.base.places t none in
    let stage : views.place_at (map start_place o.base.places) t ≡ start_place p = get_or-map_of start_place o.base.places t none in
    let position : position_in (positions_in o) t ≡ position_of p = get_or-map_of position_of o.base.places t none in
    (ap (λ (s : Stage). s.epoch) stage ∙ (start-epoch p ∙ sym (ap (λ (q : Position). q.epoch) position)), ap (λ (s : Stage). s.phase) stage ∙ (start-phase p ∙ ap (λ (q : Position). cond q.waits 2 0) (sym position)))

pub begun-done : (e : ℕ) (a : Bool) → (4 * e + cond a 2 0 + 3) / 4 ≡ e + cond a 1 0
begun-done e true = omega arith
begun-done e false = omega arith

abbrev unit : Bool → ℕ
unit a = cond a 1 0

-- as many hand-outs as the starting state has behind it lead to its places
pub taken-begun : (o : Origin) → IsLawfulOrigin o → taken (map start_place o.base.places) ≡ taken_before o
taken-begun o l =
    let ps : List Stage = map start_place o.base.places in
    let p : ℕ → Position = λ t. position_in (positions_in o) t in
    let long : length ps ≡ slots_in o = length-map o.base.places start_place ∙ l.base.places in
    ap (sum_below (λ t. begun (numbers ps t))) long ∙ sum-same (λ t. begun (numbers ps t)) (λ t. done (p t)) (slots_in o)
    (λ t h. let s = begun-at o t in ap begun (ap₂ (λ x y. 4 * x + y) s.0 s.1) ∙ begun-done (p t).epoch (p t).waits)

-- what an opening has made
pub record Made (b : board.Inside) : Type 0 where
  pub lawful : IsLawfulOrigin (arc_value b.origin)
  pub slots : AreFirst (arc_value b.origin) b.slots
  pub pairs : b.pairs ≡ (arc_value b.origin).base.pairs
  pub records_long : length b.records ≡ row_total (arc_value b.origin)
  pub rows : KeepsRows (arc_value b.origin) (started (arc_value b.origin)) b.records
  pub left : b.left ≡ (arc_value b.origin).window.takes
  pub duos : length b.duos ≡ slots_in (arc_value b.origin)
  pub pending : b.pending ≡ record { items = []; spare = (arc_value b.origin).window.samples * slots_in (arc_value b.origin) * slots_in (arc_value b.origin) }
  pub places : b.places ≡ (arc_value b.origin).base.places

-- the places of a state that fits keep the rule
pub begun-ruled : (o : Origin) → IsLawfulOrigin o → Ruled (slots_in o) o.window.until (started o) (epochs (map start_place o.base.places)) (phases (map start_place o.base.places))
begun-ruled o l =
    let ps : List Stage = map start_place o.base.places in
    let p : ℕ → Position = λ t. position_in (positions_in o) t in
    record {
      below = λ t h. let s = begun-at o t in let r = done-reach o t l h in omega arith;
      working = λ t h q. let s = begun-at o t in let r = done-reach o t l h in elim (bit-tells (p t).waits) [
        | inl a ↦ let z : unit (p t).waits ≡ 1 = ap unit a.0 in omega arith
        | inr a ↦ let z = a.1 in absurd (omega arith)
      ];
      phased = λ t h. let s = begun-at o t in elim (bit-tells (p t).waits) [ inl a ↦ let z = a.1 in omega arith | inr a ↦ let z = a.1 in omega arith ];
      since = λ t h. let s = begun-at o t in omega arith;
      partnered = λ t h q. let s = begun-at o t in elim (bit-tells (p t).waits) [
        | inl a ↦ subst (λ e. has_partner (slots_in o) t e ≡ true) (sym s.0) (l.base.in_step.partnered t h a.0)
        | inr a ↦ let z = a.1 in absurd (omega arith)
      ];
      level = λ k h.
          let s = begun-at o k in let s' = begun-at o (k + 1) in
          let same : turns k (p k).epoch ≡ turns k (p (k + 1)).epoch = turns-from k _ _ (λ f turn below. (l.base.in_step.turns k h f turn).0 below) (λ f turn below. (l.base.in_step.turns k h f turn).1 below) in
          ap (turns k) s.0 ∙ (same ∙ ap (turns k) (sym s'.0));
      lone = λ k h q q' same.
          let s = begun-at o k in let s' = begun-at o (k + 1) in
          elim (bit-tells (p k).waits) [
            | inr a ↦ let z = a.1 in absurd (omega arith)
            | inl a ↦ elim (bit-tells (p (k + 1)).waits) [
              | inr c ↦ let z = c.1 in absurd (omega arith)
              | inl c ↦
                  let off = l.base.in_step.lone k h a.0 c.0 (omega arith) in
                  let odd = eqb-false ((k + (p k).epoch) % 2) 0 off in
                  let e = s.0 in omega arith
            ]
          ];
    }

pub made-keeps : (b : board.Inside) → Made b → KeepsBoard b
made-keeps b m =
    let o : Origin = arc_value b.origin in
    let l = m.lawful in
    let ps : List Stage = map start_place o.base.places in
    let at : places_of b ≡ ps = m.slots.places in
    let long : length ps ≡ slots_in o = length-map o.base.places start_place ∙ l.base.places in
    let R : List Stage → Type 0 = λ q. Ruled (slots_in o) o.window.until (started o) (epochs q) (phases q) in
    let W : List Stage → Type 0 = λ q. KeepsRows o (numbers q) b.records in
    let K : List Stage → Type 0 = λ q. (k i : ℕ) → k + 1 < slots_in o → part_pair (pair_in b.pairs k) ≡ generators (plan_of o) (starts o i) k (epochs q k) in
    let L : List Stage → Type 0 = λ q. (i : ℕ) → i < 64 → PermutesAt (slots_in o) (content_at o (epochs q) (phases q) i) in
    let T : List Stage → Type 0 = λ q. taken q + b.left ≡ taken_before o + o.window.takes in
    let A : List PairWheels → Type 0 = λ q. All ArePairGenerators q in
    let number : (j : ℕ) → numbers ps j ≡ started o j = λ j. let s = begun-at o j in ap₂ (λ x y. 4 * x + y) s.0 s.1 in
    let content_is : (i t : ℕ) → content_at o (epochs ps) (phases ps) i t ≡ slot_at (starts o i).slots t = λ i t.
    let s = begun-at o t in ap₂ (λ e a. rule_content o i t e a) s.0 (ap (λ n. n == 2) s.1 ∙ phase-waits (position_in (positions_in o) t).waits) ∙ content-start (plan_of o) (starts o i) t in
    let taken_is = taken-begun o l in
    record {
      lawful = l;
      slots_long = m.slots.count ∙ l.base.places;
      pairs_long = ap length m.pairs ∙ l.base.pairs;
      records_long = m.records_long;
      ruled = subst R (sym at) (begun-ruled o l);
      homes = m.slots.each;
      pairs = subst K (sym at) (λ k i h.
          let none : PairWheels = record { first = []; second = [] } in
          ap (λ (q : List PairWheels). part_pair (pair_in q k)) m.pairs ∙ (sym (get_or-map part_pair o.base.pairs k none _ (omega (arith, l.base.pairs))) ∙ sym (generators-from (plan_of o) (starts o i) k (epochs ps k) (let s = begun-at o k in omega arith))));
      pairs_fit = subst A (sym m.pairs) l.base.each_pair;
      labels = subst L (sym at) (λ i small. let q = l.base.labels i small in record {
        first = permutes-equal (slots_in o) (λ t. (slot_at (starts o i).slots t).first.replica) (λ t. (content_at o (epochs ps) (phases ps) i t).first.replica) q.first (λ t h. ap (λ (x : PlainSlot). x.first.replica) (content_is i t));
        second = permutes-equal (slots_in o) (λ t. (slot_at (starts o i).slots t).second.replica) (λ t. (content_at o (epochs ps) (phases ps) i t).second.replica) q.second (λ t h. ap (λ (x : PlainSlot). x.second.replica) (content_is i t));
      });
      taken = subst T (sym at) (let z = m.left in omega (arith, taken_is));
      rows = subst W (sym at) (rows-same o (started o) (numbers ps) b.records (λ j. ap recorded (number j)) m.rows);
      duos = m.duos;
      pending = m.pending;
      stops = ap length m.places ∙ l.base.places;
    }

-- an origin of these parts
pub made-lawful : (o : Origin) (plan : Plan) (base : RaggedStand) (window : Window) → plan_of o ≡ plan → o.base ≡ base → o.window ≡ window → IsLawfulPlan plan
    → RaggedStandFits plan window.samples window.every base → window.until ≤ 1000000000 → window.every ≤ 1000000000 → window.takes ≤ every_take
    → deepest_of (positions_of base) ≤ window.until
    → (window.until / window.every - floor_of (positions_of base) / window.every) * window.samples * slots_of plan ≤ 4194304 → IsLawfulOrigin o
made-lawful o plan base window plan_is base_is window_is lawful fits until every takes reach rows =
    let F : Plan → RaggedStand → Window → Type 0 = λ p b w. RaggedStandFits p w.samples w.every b in
    let f1 : F (plan_of o) base window = subst (λ p. F p base window) (sym plan_is) fits in
    let f2 : F (plan_of o) o.base window = subst (λ b. F (plan_of o) b window) (sym base_is) f1 in
    let f3 : F (plan_of o) o.base o.window = subst (λ w. F (plan_of o) o.base w) (sym window_is) f2 in
    let L : Plan → Type 0 = λ p. IsLawfulPlan p in
    let U : Window → Type 0 = λ w. w.until ≤ 1000000000 in
    let E : Window → Type 0 = λ w. w.every ≤ 1000000000 in
    let K : Window → Type 0 = λ w. w.takes ≤ every_take in
    let R : RaggedStand → Window → Type 0 = λ b w. deepest_of (positions_of b) ≤ w.until in
    let r1 : R o.base window = subst (λ b. R b window) (sym base_is) reach in
    let N : Plan → RaggedStand → Window → Type 0 = λ p b w. (w.until / w.every - floor_of (positions_of b) / w.every) * w.samples * slots_of p ≤ 4194304 in
    let n1 : N (plan_of o) base window = subst (λ p. N p base window) (sym plan_is) rows in
    let n2 : N (plan_of o) o.base window = subst (λ b. N (plan_of o) b window) (sym base_is) n1 in
    record {
      plan = subst L (sym plan_is) lawful;
      base = f3;
      until = subst U (sym window_is) until;
      every = subst E (sym window_is) every;
      takes = subst K (sym window_is) takes;
      reach = subst (λ w. R o.base w) (sym window_is) r1;
      rows = subst (λ w. N (plan_of o) o.base w) (sym window_is) n2;
    }
