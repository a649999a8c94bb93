-- The states of a quench that goes on, one after the other.
use Rattle.std.specs.Prelude.{Result, Ok, Err, IfOk}
use Rattle.std.proofs.Common.{◌≡◌, inl, inr, ℕ, ◌+◌, ◌-◌, ◌<◌, ◌≤◌, List, [], ◌∷◌, ◌++◌, length, take, get_or, ap, refl, sym, subst, ◌∙◌, arith}
use Rattle.std.proofs.lemmas.Bool.{cases_lt}
use Rattle.std.proofs.lemmas.List.{get_or_append_left, get_or_push, length_push, take-append-le, take_all}
use Rattle.scalar_rule.specs.Plan.{Plan}
use Rattle.scalar_rule.specs.declared.sample.Sample.{Sample}
use Rattle.plane_sweep.specs.Packed.{part}
use Rattle.plane_sweep.specs.declared.stand.Stand.{Stand}
use Rattle.quenched_states.specs.StillRule.{still}
use Rattle.quenched_states.specs.KeptStates.{AreQuenchTimes, time_at, kept_state, gone_on}
use Rattle.quenched_states.proofs.KeptLines.{gone-early, gone-late, states-go-on, times-rise}
use Rattle.quenched_states.proofs.StillParts.{still-composes}
use Rattle.run_checkpoint.specs.BankEncoding.{BanksFit}
use Rattle.quenched_run.specs.Quenches.{sample_in, sample_at, AreAtTimes, AreInTime, AreKept, AreGoneOn}
use Rattle.quenched_run.specs.Steps.{AreStill}
use Rattle.quenched_run.proofs.FittingBanks.{fit-long, epoch-at, step-of, still-fit}

-- the first n states of a quench that goes on
pub record GoneTo (plans : List Plan) (times : List ℕ) (held states : List (List Stand)) (n : ℕ) : Type 0 where
  pub count : length states ≡ n
  pub most : n ≤ length times
  pub from : length held ≤ n
  pub fit : AreAtTimes plans times states
  pub stay : take (length held) states ≡ held
  pub each : (g b j : ℕ) (d : Plan) (none : Stand) → g < length plans → b < 64 → j < n
      → sample_at (get_or plans g d) none states g b j ≡ gone_on (get_or plans g d) times (length held) (sample_at (get_or plans g d) none held g b) j

part-epoch : (l b : ℕ) (stand : Stand) → (part l b stand).epoch ≡ stand.epoch
unfolding part
part-epoch l b stand = refl

module _ (plans : List Plan) (times : List ℕ) (held : List (List Stand)) (held-fit : AreAtTimes plans times held) where
  pub gone-begins : length held ≤ length times → GoneTo plans times held held (length held)
  gone-begins few = record {
    count = refl;
    most = few;
    from = omega arith;
    fit = held-fit;
    stay = take_all (length held) held (omega arith);
    each = λ g b j d none within small below. sym (gone-early (get_or plans g d) times (length held) j (sample_at (get_or plans g d) none held g b) below);
  }

  pub gone-ends : (states : List (List Stand)) (n : ℕ) → n ≡ length times → GoneTo plans times held states n → AreGoneOn plans times held states
  gone-ends states n whole gone = record {
    count = gone.count ∙ whole;
    fit = gone.fit;
    stay = gone.stay;
    each = λ g b j d none within small below. gone.each g b j d none within small (omega (arith, below, whole));
  }

  -- the last of the first n states is in time for the next
  pub next-in-time : (states : List (List Stand)) (n : ℕ) → AreQuenchTimes times → 0 < length held → n < length times → GoneTo plans times held states n
      → AreInTime plans (time_at times n) (get_or states (n - 1) [])
  next-in-time states n are some more gone = record {
    epoch = time_at times (n - 1);
    fit = gone.fit (n - 1) (omega (arith, some, gone.from, gone.count));
    in_time = times-rise times (n - 1) n are (omega arith) more;
  }

  -- one state more, which is made from the last
  module _ (states : List (List Stand)) (next : List Stand) (n : ℕ) (are : AreQuenchTimes times) (some : 0 < length held) (more : n < length times)
      (gone : GoneTo plans times held states n) (swept : AreStill plans (time_at times n) (get_or states (n - 1) []) next) where
    last-long : length plans ≡ length (get_or states (n - 1) [])
    last-long = fit-long (time_at times (n - 1)) plans (get_or states (n - 1) []) (gone.fit (n - 1) (omega (arith, some, gone.from, gone.count)))

    next-fit : BanksFit (time_at times n) plans next
    next-fit = still-fit plans (time_at times n) (get_or states (n - 1) []) next last-long swept

    -- the last held state is at its time
    held-epoch : (g b : ℕ) (d : Plan) (none : Stand) → g < length plans → (sample_at (get_or plans g d) none held g b (length held - 1)).epoch ≡ time_at times (length held - 1)
    held-epoch g b d none within =
        let k = length held - 1 in
        part-epoch (get_or plans g d).size b (get_or (get_or held k []) g none)
        ∙ epoch-at (time_at times k) plans (get_or held k []) g none (held-fit k (omega (arith, some))) within

    -- the new state is that of the definition, from the last held one
    next-sample : (g b : ℕ) (d : Plan) (none : Stand) → g < length plans → b < 64
        → sample_in (get_or plans g d) none next g b ≡ gone_on (get_or plans g d) times (length held) (sample_at (get_or plans g d) none held g b) n
    next-sample g b d none within small =
        let plan = get_or plans g d in
        let own = sample_at plan none held g b in
        let count = length held in
        let end = time_at times n in
        let late = gone-late plan times count n own gone.from in
        let step = (step-of plans end (get_or states (n - 1) []) next g d none last-long swept within).states b small in
        let was = gone.each g b (n - 1) d none within small (omega (arith, some, gone.from)) in
        step ∙ ap (λ (s : Sample). still plan s end) was ∙ (elim (cases_lt (n - 1) count) [
          | inl less ↦
              let only : n - 1 ≡ count - 1 = omega (arith, less, gone.from) in
              ap (λ (s : Sample). still plan s end) (gone-early plan times count (n - 1) own less ∙ ap own only) ∙ sym late
          | inr not ↦
              let past : count ≤ n - 1 = omega (arith, not) in
              let begun : (own (count - 1)).epoch ≤ time_at times (n - 1) =
              omega (arith, held-epoch g b d none within, times-rise times (count - 1) (n - 1) are (omega (arith, past)) (omega (arith, more))) in
              ap (λ (s : Sample). still plan s end) (gone-late plan times count (n - 1) own past)
              ∙ still-composes plan (own (count - 1)) (time_at times (n - 1)) end begun (times-rise times (n - 1) n are (omega arith) more)
              ∙ sym late
        ])

    pub gone-more : GoneTo plans times held (states ++ next ∷ []) (n + 1)
    gone-more =
        let count = length held in
        let early = λ (j : ℕ) (less : j < n). get_or_append_left states (next ∷ []) [] j (omega (arith, less, gone.count)) in
        let late = λ (j : ℕ) (same : n ≡ j). get_or_push states next [] j (gone.count ∙ same) in
        record {
          count = length_push states next ∙ ap (λ m. m + 1) gone.count;
          most = omega (arith, more);
          from = omega (arith, gone.from);
          fit = λ j below. elim (cases_lt j n) [
            | inl less ↦ subst (BanksFit (time_at times j) plans) (sym (early j less)) (gone.fit j (omega (arith, less, gone.count)))
            | inr not ↦
                let same : n ≡ j = omega (arith, not, below, length_push states next, gone.count) in
                subst (BanksFit (time_at times j) plans) (sym (late j same)) (subst (λ i. BanksFit (time_at times i) plans next) same next-fit)
          ];
          stay = take-append-le count states (next ∷ []) (omega (arith, gone.from, gone.count)) ∙ gone.stay;
          each = λ g b j d none within small below.
              let plan = get_or plans g d in
              let P = λ (banks : List Stand) (i : ℕ). sample_in plan none banks g b ≡ gone_on plan times count (sample_at plan none held g b) i in
              elim (cases_lt j n) [
                | inl less ↦ subst (λ banks. P banks j) (sym (early j less)) (gone.each g b j d none within small less)
                | inr not ↦
                    let same : n ≡ j = omega (arith, not, below) in
                    subst (λ banks. P banks j) (sym (late j same)) (subst (λ i. P next i) same (next-sample g b d none within small))
              ];
        }

-- ---- from the beginning

pub first-at-time : (plans : List Plan) (times : List ℕ) (base first : List Stand) → AreInTime plans (time_at times 0) base
    → AreStill plans (time_at times 0) base first → AreAtTimes plans times (first ∷ [])
first-at-time plans times base first begin swept j below =
    let only : 0 ≡ j = omega (arith, below) in
    subst (λ i. BanksFit (time_at times i) plans (get_or (first ∷ []) i [])) only
    (still-fit plans (time_at times 0) base first (fit-long begin.epoch plans base begin.fit) swept)

pub kept-from : (plans : List Plan) (times : List ℕ) (base first : List Stand) (states : List (List Stand)) → AreQuenchTimes times → AreInTime plans (time_at times 0) base
    → AreStill plans (time_at times 0) base first → AreGoneOn plans times (first ∷ []) states → AreKept plans times base states
kept-from plans times base first states are begin swept gone = record {
  count = gone.count;
  fit = gone.fit;
  each = λ g b j d none within small below.
      let plan = get_or plans g d in
      let s = sample_in plan none base g b in
      let own = sample_at plan none (first ∷ []) g b in
      let begun : s.epoch ≤ time_at times 0 =
      omega (arith, part-epoch plan.size b (get_or base g none), epoch-at begin.epoch plans base g none begin.fit within, begin.in_time) in
      let one : (i : ℕ) → i < 1 → own i ≡ kept_state plan s times i =
      λ i less. subst (λ k. own k ≡ kept_state plan s times k) (let only : 0 ≡ i = omega (arith, less) in only) ((step-of plans (time_at times 0) base first g d none (fit-long begin.epoch plans base begin.fit) swept within).states b small) in
      gone.each g b j d none within small below ∙ states-go-on plan s times 1 j own are begun (omega arith) below one;
}

pub kept-if : {E : Type 0} (plans : List Plan) (times : List ℕ) (base first : List Stand) (r : Result (List (List Stand)) E) → AreQuenchTimes times
    → AreInTime plans (time_at times 0) base → AreStill plans (time_at times 0) base first → IfOk r (AreGoneOn plans times (first ∷ [])) → IfOk r (AreKept plans times base)
kept-if plans times base first (Ok states) are begin swept gone = kept-from plans times base first states are begin swept gone
kept-if plans times base first (Err e) are begin swept gone = tt
