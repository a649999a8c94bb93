-- One sweep, one epoch, and slots at different epochs, computed from the definitions on a lattice of side 2 with made-up
-- words. The values are from two programs apart from this repository, one of which follows no definition here.
use Rattle.std.proofs.Common.{◌≡◌, ℕ, ◌+◌, ◌*◌, ◌%◌, ◌^◌, List, [], ◌∷◌, true, false, refl}
use Rattle.std.specs.Prelude.{map, slice_index, pos, ◌-ℤ◌}
use Rattle.spin_model.specs.Words.{is_set, one_if}
use Rattle.spin_model.specs.Steps.{steps, table, count_below}
use Rattle.spin_model.specs.Stream.{advanced}
use Rattle.spin_model.specs.Lattice.{forward, backward, compact}
use Rattle.threshold_table.specs.declared.rule_table.RuleKind.TheVariants as kinds
use Rattle.scalar_rule.specs.Neighbours.{aligned, satisfied}
use Rattle.scalar_rule.specs.Sweep.{Dynamics, Configuration, visit, sweep}
use Rattle.spin_model.specs.SiteRule.{HeatBath}
use Rattle.scalar_rule.specs.Opening.{random_spins}
use Rattle.scalar_rule.specs.Plan.{Plan, dynamics_of}
use Rattle.scalar_rule.specs.Exchange.{cold_side, hot_side}
use Rattle.scalar_rule.specs.Epoch.{epoch, epoch_records, swept_slot, side}
use Rattle.scalar_rule.specs.Ragged.{UnevenState, ready, arrived, generators}
use Rattle.scalar_rule.specs.declared.plain_copy.PlainCopy.{PlainCopy}
use Rattle.scalar_rule.specs.declared.sample.PlainSlot.{PlainSlot}
use Rattle.scalar_rule.specs.declared.sample.PlainPair.{PlainPair}
use Rattle.scalar_rule.specs.declared.sample.Sample.{Sample}
use Rattle.scalar_rule.specs.declared.sample.Record.{Record}

-- made-up generator words
abbrev words : ℕ → List ℕ
words label = table (λ n. (n + 1) * (123456789 + 1000003 * label) % 2 ^ 32) 61

-- replica r of slot t: made-up spins, and four generators
abbrev copy : ℕ → ℕ → PlainCopy
copy t r = record { spins = table (λ i. is_set (178 + 75 * t + 109 * r) i) 8; wheels = table (λ k. words (100 * t + 10 * r + k)) 4; replica = t }

-- three slots, and couplings of which some are -1 in sample 1
abbrev plan : Plan
plan = record {
  size = 2;
  rules = record {
    kind = kinds.Metropolis;
    rows = (858993459 ∷ 171798691 ∷ 34359738 ∷ []) ∷ (1171354717 ∷ 319460377 ∷ 87125557 ∷ []) ∷ (1431655765 ∷ 477218588 ∷ 159072862 ∷ []) ∷ [];
  };
  swaps = (3149642683 ∷ 2309737966 ∷ []) ∷ (3300000000 ∷ 2500000000 ∷ []) ∷ [];
  couplings = record { size = 2; words = table (λ n. (11 * n * n + 5 * n) % 4) 24 };
  sweeps = 1;
  seed = 0;
}

-- the state of sample 1 that an epoch begins with
abbrev begin : Sample
begin = record {
  bit = 1;
  epoch = 0;
  slots = table (λ t. record { first = copy t 0; second = copy t 1 }) 3;
  pairs = table (λ k. record { first = words (1000 + 10 * k); second = words (1001 + 10 * k) }) 2;
}

-- a label, and the spins behind it
abbrev seen : PlainCopy → List ℕ
seen c = c.replica ∷ map one_if c.spins

-- replica 0 of slot 0 is swept by Metropolis: its spins, and the words that its generators then begin with
abbrev swept : Configuration
swept = sweep (dynamics_of plan 1 0) (record { spins = (copy 0 0).spins; words = (copy 0 0).wheels })

pub metropolis_sweep : map one_if swept.spins
    ≡ 1 ∷ 1 ∷ 1 ∷ 1 ∷ 1 ∷ 0 ∷ 0 ∷ 1 ∷ []
unfolding steps table advanced forward backward compact aligned satisfied visit
metropolis_sweep = refl

pub generators_after : map (λ w. slice_index w 0) swept.words
    ≡ 370370367 ∷ 373370376 ∷ 376370385 ∷ 379370394 ∷ []
unfolding steps table advanced forward backward compact aligned satisfied visit
generators_after = refl

-- replica 0 of slot 1 is swept by heat bath
abbrev warm : Dynamics
warm = record {
  size = 2;
  rule = HeatBath;
  thresholds = 429496729 ∷ 858993459 ∷ 1288490188 ∷ 2147483648 ∷ 3006477107 ∷ 3435973836 ∷ 3865470566 ∷ [];
  bonds = (dynamics_of plan 1 1).bonds;
}

pub heat_bath_sweep : map one_if (sweep warm (record { spins = (copy 1 0).spins; words = (copy 1 0).wheels })).spins
    ≡ 1 ∷ 1 ∷ 1 ∷ 1 ∷ 1 ∷ 0 ∷ 0 ∷ 1 ∷ []
unfolding steps table advanced forward backward compact aligned satisfied visit
heat_bath_sweep = refl

-- bit 1 of the second of each site's two draws
pub random_start : map one_if (random_spins 2 (words 5) 33)
    ≡ 0 ∷ 0 ∷ 0 ∷ 0 ∷ 0 ∷ 0 ∷ 0 ∷ 0 ∷ []
unfolding table advanced
random_start = refl

-- the label and spins of each slot after epoch 0, which exchanges slots 0 and 1
pub epoch_0_first : map (λ (slot : PlainSlot). seen slot.first) (epoch plan begin).slots
    ≡ (1 ∷ 0 ∷ 0 ∷ 0 ∷ 0 ∷ 1 ∷ 0 ∷ 0 ∷ 1 ∷ []) ∷ (0 ∷ 1 ∷ 1 ∷ 1 ∷ 1 ∷ 1 ∷ 0 ∷ 0 ∷ 1 ∷ []) ∷ (2 ∷ 0 ∷ 0 ∷ 0 ∷ 0 ∷ 0 ∷ 1 ∷ 1 ∷ 0 ∷ []) ∷ []
unfolding steps table count_below advanced forward backward compact aligned satisfied visit swept_slot side cold_side hot_side
epoch_0_first = refl

pub epoch_0_second : map (λ (slot : PlainSlot). seen slot.second) (epoch plan begin).slots
    ≡ (0 ∷ 1 ∷ 1 ∷ 1 ∷ 1 ∷ 0 ∷ 1 ∷ 1 ∷ 0 ∷ []) ∷ (1 ∷ 1 ∷ 0 ∷ 1 ∷ 0 ∷ 0 ∷ 1 ∷ 1 ∷ 0 ∷ []) ∷ (2 ∷ 0 ∷ 1 ∷ 0 ∷ 1 ∷ 1 ∷ 0 ∷ 0 ∷ 1 ∷ []) ∷ []
unfolding steps table count_below advanced forward backward compact aligned satisfied visit swept_slot side cold_side hot_side
epoch_0_second = refl

-- the same after epoch 1, which exchanges slots 1 and 2
pub epoch_1_first : map (λ (slot : PlainSlot). seen slot.first) (epoch plan (record begin { epoch = 1 })).slots
    ≡ (0 ∷ 1 ∷ 1 ∷ 1 ∷ 1 ∷ 1 ∷ 0 ∷ 0 ∷ 1 ∷ []) ∷ (2 ∷ 0 ∷ 0 ∷ 0 ∷ 0 ∷ 0 ∷ 1 ∷ 1 ∷ 0 ∷ []) ∷ (1 ∷ 0 ∷ 0 ∷ 0 ∷ 0 ∷ 1 ∷ 0 ∷ 0 ∷ 1 ∷ []) ∷ []
unfolding steps table count_below advanced forward backward compact aligned satisfied visit swept_slot side cold_side hot_side
epoch_1_first = refl

pub epoch_1_second : map (λ (slot : PlainSlot). seen slot.second) (epoch plan (record begin { epoch = 1 })).slots
    ≡ (0 ∷ 1 ∷ 1 ∷ 1 ∷ 1 ∷ 0 ∷ 1 ∷ 1 ∷ 0 ∷ []) ∷ (2 ∷ 0 ∷ 1 ∷ 0 ∷ 1 ∷ 1 ∷ 0 ∷ 0 ∷ 1 ∷ []) ∷ (1 ∷ 1 ∷ 0 ∷ 1 ∷ 0 ∷ 0 ∷ 1 ∷ 1 ∷ 0 ∷ []) ∷ []
unfolding steps table count_below advanced forward backward compact aligned satisfied visit swept_slot side cold_side hot_side
epoch_1_second = refl

pub pairs_after_0 : map (λ (pair : PlainPair). slice_index pair.first 0 ∷ slice_index pair.second 0 ∷ []) (epoch plan begin).pairs
    ≡ (1461874391 ∷ 1512874544 ∷ []) ∷ (1133459819 ∷ 1134459822 ∷ []) ∷ []
unfolding steps table count_below advanced
pairs_after_0 = refl

pub pairs_after_1 : map (λ (pair : PlainPair). slice_index pair.first 0 ∷ slice_index pair.second 0 ∷ []) (epoch plan (record begin { epoch = 1 })).pairs
    ≡ (1123459789 ∷ 1124459792 ∷ []) ∷ (1971875921 ∷ 2022876074 ∷ []) ∷ []
unfolding steps table count_below advanced
pairs_after_1 = refl

-- energies and overlaps of epoch 0
pub energies : map (λ (r : Record). r.second_energy) (epoch_records plan begin)
    ≡ (pos 8 -ℤ pos 24) ∷ (pos 16 -ℤ pos 24) ∷ (pos 16 -ℤ pos 24) ∷ []
unfolding steps table count_below advanced forward backward compact aligned satisfied visit swept_slot
energies = refl

pub overlaps : map (λ (r : Record). r.overlap) (epoch_records plan begin)
    ≡ (pos 8 -ℤ pos 8) ∷ (pos 4 -ℤ pos 8) ∷ (pos 4 -ℤ pos 8) ∷ []
unfolding steps table count_below advanced forward backward compact aligned satisfied visit swept_slot
overlaps = refl

-- slot 0 is at rest at epoch 2, slot 1 at 1, and slot 2 waits at 1
abbrev uneven : UnevenState
uneven = record {
  bit = 1;
  positions = record { epoch = 2; waits = false } ∷ record { epoch = 1; waits = false } ∷ record { epoch = 1; waits = true } ∷ [];
  slots = begin.slots;
  pairs = begin.pairs;
}

-- it waits with the spins that it has
pub waiting_slot : seen (arrived plan uneven 1 2).first
    ≡ 2 ∷ 0 ∷ 0 ∷ 0 ∷ 1 ∷ 0 ∷ 0 ∷ 1 ∷ 0 ∷ []
unfolding steps table count_below advanced forward backward compact aligned satisfied visit swept_slot side cold_side hot_side ready generators
waiting_slot = refl

-- slot 1 is still to be swept there
pub swept_at_1 : seen (arrived plan uneven 1 1).first
    ≡ 1 ∷ 0 ∷ 0 ∷ 0 ∷ 0 ∷ 1 ∷ 0 ∷ 0 ∷ 1 ∷ []
unfolding steps table count_below advanced forward backward compact aligned satisfied visit swept_slot side cold_side hot_side ready generators
swept_at_1 = refl

-- and then exchanged with slot 2
pub rest_at_2 : seen (ready plan uneven 2 1).first
    ≡ 1 ∷ 0 ∷ 0 ∷ 0 ∷ 0 ∷ 1 ∷ 0 ∷ 0 ∷ 1 ∷ []
unfolding steps table count_below advanced forward backward compact aligned satisfied visit swept_slot side cold_side hot_side ready generators
rest_at_2 = refl

pub rest_at_2_hot : seen (ready plan uneven 2 2).second
    ≡ 2 ∷ 1 ∷ 0 ∷ 1 ∷ 0 ∷ 1 ∷ 1 ∷ 0 ∷ 1 ∷ []
unfolding steps table count_below advanced forward backward compact aligned satisfied visit swept_slot side cold_side hot_side ready generators
rest_at_2_hot = refl

-- slot 0 is at its own position
pub own_at_2 : seen (ready plan uneven 2 0).second
    ≡ 0 ∷ 1 ∷ 1 ∷ 1 ∷ 1 ∷ 1 ∷ 0 ∷ 0 ∷ 0 ∷ []
unfolding steps table count_below advanced forward backward compact aligned satisfied visit swept_slot side cold_side hot_side ready generators
own_at_2 = refl

-- and is exchanged with slot 1 after epoch 2
pub rest_at_3 : seen (ready plan uneven 3 0).second
    ≡ 0 ∷ 1 ∷ 1 ∷ 1 ∷ 1 ∷ 0 ∷ 1 ∷ 1 ∷ 0 ∷ []
unfolding steps table count_below advanced forward backward compact aligned satisfied visit swept_slot side cold_side hot_side ready generators
rest_at_3 = refl

-- pair 0 has its turn at epoch 2, pair 1 at epoch 1
pub generators_of_pairs : map (λ k. map (λ e. slice_index (generators plan uneven k e).first 0) (1 ∷ 2 ∷ 3 ∷ [])) (0 ∷ 1 ∷ [])
    ≡ (1123459789 ∷ 1123459789 ∷ 1461874391 ∷ []) ∷ (1133459819 ∷ 1971875921 ∷ 1971875921 ∷ []) ∷ []
unfolding table advanced generators
generators_of_pairs = refl
