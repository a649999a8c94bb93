-- A replica's sweeps from one time to the next, and its overlaps with the spins that were kept.
use Rattle.std.proofs.Common.{◌≡◌, ℕ, zero, suc, ◌+◌, ◌<◌, ◌≤◌, List, length, get_or, refl, sym, ap, ◌∙◌, subst, arith, add-one}
use Rattle.std.specs.Prelude.{Bool, ◌*◌, ℤ, pos, ◌-ℤ◌}
use Rattle.spin_model.proofs.Stepping.{steps-add}
use Rattle.spin_model.specs.Lattice.{volume}
use Rattle.spin_model.specs.Steps.{steps}
use Rattle.plane_sweep.specs.Packed.{part_copy, spins_of}
use Rattle.plane_sweep.specs.declared.replica.Replica.{Replica}
use Rattle.scalar_rule.specs.Plan.{Plan, dynamics_of}
use Rattle.scalar_rule.specs.Replica.{configuration_of, with_configuration}
use Rattle.scalar_rule.specs.Sums.{agreeing, overlap}
use Rattle.scalar_rule.specs.Sweep.{Dynamics, Configuration, sweep, sweeps}
use Rattle.scalar_rule.specs.declared.plain_copy.PlainCopy.{PlainCopy}
use Rattle.multispin_word.specs.Planes.{number}
use Rattle.aging_run.specs.Aging.{AreTimes, spins_after, two_time_overlap, overlap_line, time_lines, overlaps_at}
use Rattle.aging_run.specs.Measuring.{overlap_in}
use Rattle.spin_model.proofs.Joined.{joined-same}

-- the time before number k, which is the quench's end for the first
unfoldable pub time_before : List ℕ → ℕ → ℕ
time_before times zero = 0
time_before times (suc k) = get_or times k 0

pub before-first : (times : List ℕ) → time_before times 0 ≡ 0
unfolding time_before
before-first times = refl

pub before-next : (times : List ℕ) (k : ℕ) → time_before times (k + 1) ≡ get_or times k 0
unfolding time_before
before-next times k = rw add-one refl

pub before-earlier : (times : List ℕ) (k : ℕ) → AreTimes times → k < length times → time_before times k ≤ get_or times k 0
unfolding time_before
before-earlier times zero are below = omega arith
before-earlier times (suc k) are below =
    let rises = are.rising k (omega arith) in
    let next : k + 1 ≡ suc k = omega arith in
    let same = ap (λ j. get_or times j 0) next in
    omega arith

-- ---- sweeps

-- a sweep is the same whatever its number is
anywhere : (d : Dynamics) (start m : ℕ) (s : Configuration) → steps (λ _ t. sweep d t) start m s ≡ sweeps d m s
unfolding steps
anywhere d start zero s = refl
anywhere d start (suc m) s = ap (sweep d) (anywhere d start m s)

-- sweeps, and then more of them
pub more-sweeps : (d : Dynamics) (n m : ℕ) (s : Configuration) → sweeps d (n + m) s ≡ sweeps d m (sweeps d n s)
more-sweeps d n m s = steps-add (λ _ t. sweep d t) 0 n m s ∙ anywhere d (0 + n) m (sweeps d n s)

-- a packed replica is another after so many sweeps, in all samples
abbrev pub HasSwept : Plan → ℕ → ℕ → Replica → Replica → Type 0
HasSwept plan slot n old now = (b : ℕ) → b < 64
    → part_copy plan.size b now ≡ with_configuration (part_copy plan.size b old) (sweeps (dynamics_of plan b slot) n (configuration_of (part_copy plan.size b old)))

-- it has the spins that another has after so many
abbrev pub HasSpinsAfter : Plan → ℕ → ℕ → Replica → Replica → Type 0
HasSpinsAfter plan slot n old kept = (b : ℕ) → b < 64 → spins_of plan.size b kept.planes ≡ spins_after (dynamics_of plan b slot) n (part_copy plan.size b old)

-- the same number by another name
pub swept-same : (plan : Plan) (slot n total : ℕ) (old now : Replica) → HasSwept plan slot n old now → n ≡ total → HasSwept plan slot total old now
swept-same plan slot n total old now swept whole = subst (λ k. HasSwept plan slot k old now) whole swept

-- sweeps, and then more of them
pub swept-on : (plan : Plan) (slot n m total : ℕ) (old mid now : Replica) → HasSwept plan slot n old mid → HasSwept plan slot m mid now → n + m ≡ total → HasSwept plan slot total old now
swept-on plan slot n m total old mid now before last whole = λ b small.
    let d : Dynamics = dynamics_of plan b slot in
    let start : PlainCopy = part_copy plan.size b old in
    last b small ∙ ap (λ (w : PlainCopy). with_configuration w (sweeps d m (configuration_of w))) (before b small)
    ∙ ap (with_configuration start) (sym (more-sweeps d n m (configuration_of start)) ∙ ap (λ k. sweeps d k (configuration_of start)) whole)

-- ---- overlaps

-- twice the agreeing sites less all sites is A, where the spins are those at the two times
pub overlap-is : (d : Dynamics) (wait t : ℕ) (replica : PlainCopy) (words : List ℕ) (sites b : ℕ) (kept now : List Bool)
    → number words b ≡ agreeing d.size kept now → sites ≡ volume d.size → kept ≡ spins_after d wait replica → now ≡ spins_after d (wait + t) replica
    → overlap_in words sites b ≡ two_time_overlap d wait t replica
unfolding two_time_overlap
overlap-is d wait t replica words sites b kept now counted all was is =
    ap (λ n. pos (2 * n) -ℤ pos sites) counted
    ∙ ap (λ n. pos (2 * agreeing d.size kept now) -ℤ pos n) all
    ∙ ap (λ s. overlap d.size s now) was
    ∙ ap (λ s. overlap d.size (spins_after d wait replica) s) is

-- so the lines are those of A
pub lines-are : (slot copy t samples : ℕ) (f g : ℕ → ℤ) → ((b : ℕ) → b < samples → f b ≡ g b) → time_lines slot copy t f samples ≡ time_lines slot copy t g samples
lines-are slot copy t samples f g same =
    joined-same (λ b. overlap_line slot copy t b (f b)) (λ b. overlap_line slot copy t b (g b)) (λ b. b) samples (λ b below. ap (overlap_line slot copy t b) (same b below))

-- what is put at one time is the lines of A, where the kept spins and the present ones are those at the two times
pub measured : (plan : Plan) (slot copy wait t sites samples : ℕ) (words : List ℕ) (old kept now : Replica) → samples ≤ 64
    → ((b : ℕ) → b < 64 → number words b ≡ agreeing plan.size (spins_of plan.size b kept.planes) (spins_of plan.size b now.planes)) → sites ≡ volume plan.size
    → HasSpinsAfter plan slot wait old kept → HasSwept plan slot (wait + t) old now
    → time_lines slot copy t (overlap_in words sites) samples ≡ time_lines slot copy t (overlaps_at plan slot wait (λ b. part_copy plan.size b old) t) samples
measured plan slot copy wait t sites samples words old kept now few counted all was is =
    lines-are slot copy t samples (overlap_in words sites) (overlaps_at plan slot wait (λ b. part_copy plan.size b old) t) (λ b below.
    let small : b < 64 = omega arith in
    overlap-is (dynamics_of plan b slot) wait t (part_copy plan.size b old) words sites b (spins_of plan.size b kept.planes) (spins_of plan.size b now.planes)
    (counted b small) all (was b small) (ap (λ (r : PlainCopy). r.spins) (is b small)))
