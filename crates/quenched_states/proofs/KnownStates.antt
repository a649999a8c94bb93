-- A quench of two slots with two sweeps an epoch, computed from the definitions on a lattice of side 2 with made-up words. The values
-- are from two programs apart from these definitions, one of which shares no function with them.
use Rattle.std.proofs.Common.{◌≡◌, ℕ, ◌+◌, ◌*◌, ◌%◌, ◌^◌, List, [], ◌∷◌, ◌++◌, map, codes, slice_index, refl}
use Rattle.std.specs.Fmt.{digits}
use Rattle.spin_model.specs.Words.{is_set, one_if}
use Rattle.spin_model.specs.Steps.{steps, table, count_below}
use Rattle.spin_model.specs.SignedSums.{sum_of}
use Rattle.spin_model.specs.Stream.{advanced}
use Rattle.spin_model.specs.Lattice.{forward, backward, compact}
use Rattle.threshold_table.specs.declared.rule_table.RuleKind.TheVariants as kinds
use Rattle.scalar_rule.specs.Neighbours.{aligned, satisfied}
use Rattle.scalar_rule.specs.Sweep.{visit}
use Rattle.scalar_rule.specs.Plan.{Plan}
use Rattle.scalar_rule.specs.Epoch.{slot_at}
use Rattle.scalar_rule.specs.declared.plain_copy.PlainCopy.{PlainCopy}
use Rattle.scalar_rule.specs.declared.sample.PlainSlot.{PlainSlot}
use Rattle.scalar_rule.specs.declared.sample.Sample.{Sample}
use Rattle.measured_sums.specs.PlaneCorrelations.{over_families}
use Rattle.quenched_states.specs.StillRule.{still, still_slot}
use Rattle.quenched_states.specs.KeptStates.{kept_state, gone_on}
use Rattle.quenched_states.specs.QuenchText.{QuenchHeading, quench_heading_line, state_line, pair_line, quench_text, state_seen, state_fields}
use Rattle.quenched_states.specs.CrossText.{CrossHeading, cross_heading_line, copies_line, cross_text, copies_fields}

-- made-up generator words
abbrev words : ℕ → List ℕ
words label = table (λ n. (n + 1) * (123456789 + 1000003 * label) % 2 ^ 32) 61

-- replica r of slot t: made-up spins, and four generators
abbrev copy : ℕ → ℕ → PlainCopy
copy t r = record { spins = table (λ i. is_set (178 + 75 * t + 109 * r) i) 8; wheels = table (λ k. words (100 * t + 10 * r + k)) 4; replica = t }

-- two slots, the second one warmer, and couplings of which some are -1 in sample 1
abbrev plan : Plan
plan = record {
  size = 2;
  rules = record {
    kind = kinds.Heat;
    rows = (429496729 ∷ 858993459 ∷ 1288490188 ∷ 2147483648 ∷ 3006477107 ∷ 3435973836 ∷ 3865470566 ∷ [])
        ∷ (1073741824 ∷ 1431655765 ∷ 1789569706 ∷ 2147483648 ∷ 2505397589 ∷ 2863311530 ∷ 3221225472 ∷ []) ∷ [];
  };
  swaps = (3149642683 ∷ []) ∷ [];
  couplings = record { size = 2; words = table (λ n. (11 * n * n + 5 * n) % 4) 24 };
  sweeps = 2;
  seed = 0;
}

-- the state of sample 1 that the quench begins with, at epoch 3
abbrev begin : Sample
begin = record {
  bit = 1;
  epoch = 3;
  slots = table (λ t. record { first = copy t 0; second = copy t 1 }) 2;
  pairs = record { first = words 1000; second = words 1001 } ∷ [];
}

-- spins, and the words that the generators then begin with
abbrev seen : PlainCopy → List ℕ
seen c = map one_if c.spins ++ map (λ w. slice_index w 0) c.wheels

abbrev slot : ℕ → ℕ → PlainSlot
slot e t = slot_at (still plan begin e).slots t

pub colder_first : seen (slot 4 0).first ≡ 1 ∷ 1 ∷ 1 ∷ 1 ∷ 1 ∷ 0 ∷ 0 ∷ 1 ∷ 617283945 ∷ 622283960 ∷ 627283975 ∷ 632283990 ∷ []
unfolding steps table advanced forward backward compact aligned satisfied visit still_slot
colder_first = refl

pub warmer_second : seen (slot 4 1).second ≡ 0 ∷ 0 ∷ 0 ∷ 0 ∷ 0 ∷ 1 ∷ 0 ∷ 0 ∷ 1167285595 ∷ 1172285610 ∷ 1177285625 ∷ 1182285640 ∷ []
unfolding steps table advanced forward backward compact aligned satisfied visit still_slot
warmer_second = refl

-- two epochs
pub warmer_first : seen (slot 5 1).first ≡ 0 ∷ 0 ∷ 0 ∷ 0 ∷ 1 ∷ 0 ∷ 1 ∷ 1 ∷ 2011113801 ∷ 2020113828 ∷ 2029113855 ∷ 2038113882 ∷ []
unfolding steps table advanced forward backward compact aligned satisfied visit still_slot
warmer_first = refl

-- ---- its text

abbrev times : List ℕ
times = 3 ∷ 4 ∷ 5 ∷ []

abbrev heading : ℕ → QuenchHeading
heading held = record { size = 2; slots = 2; samples = 1; rule = codes "heat"; sweeps = 2; times = times; held = held }

pub whole_quench : quench_text (heading 0) (state_seen (λ b. plan) (λ b j. kept_state plan begin times j)) (state_fields (λ b j. kept_state plan begin times j))
    ≡ codes "quench 1 size=2 slots=2 samples=1 rule=heat sweeps=2 times=3 held=0\n"
    ++ codes "state,3,0,0,0,-8,-2,-4\nstate,3,0,1,8,-8,-2,-12\n"
    ++ codes "state,4,0,0,-16,-16,0,8\npair,3,4,0,0,0,2,-8,4\n"
    ++ codes "state,4,0,1,0,-8,2,4\npair,3,4,0,1,-2,2,4,-4\n"
    ++ codes "state,5,0,0,-16,-8,-6,12\npair,3,5,0,0,0,-4,-8,8\npair,4,5,0,0,8,-2,24,4\n"
    ++ codes "state,5,0,1,-8,8,4,0\npair,3,5,0,1,0,-2,-8,-12\npair,4,5,0,1,2,0,-4,0\n"
    ++ codes "end\n"
unfolding steps table advanced forward backward compact aligned satisfied visit still_slot count_below sum_of digits quench_text quench_heading_line state_line pair_line
whole_quench = refl

-- from the first two states on
abbrev going_on : ℕ → ℕ → Sample
going_on b j = gone_on plan times 2 (kept_state plan begin times) j

pub last_state : quench_text (heading 2) (state_seen (λ b. plan) going_on) (state_fields going_on)
    ≡ codes "quench 1 size=2 slots=2 samples=1 rule=heat sweeps=2 times=3 held=2\n"
    ++ codes "state,5,0,0,-16,-8,-6,12\npair,3,5,0,0,0,-4,-8,8\npair,4,5,0,0,8,-2,24,4\n"
    ++ codes "state,5,0,1,-8,8,4,0\npair,3,5,0,1,0,-2,-8,-12\npair,4,5,0,1,2,0,-4,0\n"
    ++ codes "end\n"
unfolding steps table advanced forward backward compact aligned satisfied visit still_slot count_below sum_of digits quench_text quench_heading_line state_line pair_line
last_state = refl

-- ---- four copies of the first state and the last

abbrev cross_heading : CrossHeading
cross_heading = record { size = 2; slots = 2; samples = 1; rule = codes "heat"; first_seed = 0; second_seed = 0; first_epoch = 3; second_epoch = 5 }

pub four_copies : cross_text cross_heading (copies_fields (λ b. still plan begin 3) (λ b. still plan begin 5))
    ≡ codes "cross 1 size=2 slots=2 samples=1 rule=heat seeds=0,0 epochs=3,5\n"
    ++ codes "pair,0,0,0,1,-2,-4\naxis,0,0,0,1,12,0\nface,0,0,0,1,56,-32\n"
    ++ codes "pair,0,0,0,2,0,-8\naxis,0,0,0,2,8,-8\nface,0,0,0,2,32,-32\n"
    ++ codes "pair,0,0,0,3,-2,4\naxis,0,0,0,3,28,-16\nface,0,0,0,3,24,0\n"
    ++ codes "pair,0,0,1,2,6,12\naxis,0,0,1,2,60,48\nface,0,0,1,2,120,96\n"
    ++ codes "pair,0,0,1,3,-4,8\naxis,0,0,1,3,40,8\nface,0,0,1,3,64,32\n"
    ++ codes "pair,0,0,2,3,-6,12\naxis,0,0,2,3,60,48\nface,0,0,2,3,120,96\n"
    ++ codes "pair,0,1,0,1,-2,-12\naxis,0,1,0,1,12,0\nface,0,1,0,1,24,0\n"
    ++ codes "pair,0,1,0,2,0,-8\naxis,0,1,0,2,8,-8\nface,0,1,0,2,32,-32\n"
    ++ codes "pair,0,1,0,3,4,0\naxis,0,1,0,3,32,16\nface,0,1,0,3,64,32\n"
    ++ codes "pair,0,1,1,2,-2,4\naxis,0,1,1,2,28,-16\nface,0,1,1,2,24,0\n"
    ++ codes "pair,0,1,1,3,-2,-12\naxis,0,1,1,3,12,0\nface,0,1,1,3,24,0\n"
    ++ codes "pair,0,1,2,3,4,0\naxis,0,1,2,3,24,24\nface,0,1,2,3,96,0\n"
    ++ codes "end\n"
unfolding steps table advanced forward backward compact aligned satisfied visit still_slot sum_of digits over_families cross_text cross_heading_line copies_line
four_copies = refl
