use Rattle.std.specs.Arc.{arc_value}
use Rattle.std.proofs.Common.{arith, ◌≡◌, ◌+◌, ◌*◌, ◌++◌, length, map, ap, sym, subst, ◌∙◌}
use Rattle.std.proofs.lemmas.List.{length-map}
use Rattle.exchange_board.specs.Views.{RaggedEndedView}
use Rattle.plane_sweep.specs.Packed.{part}
use Rattle.plane_sweep.specs.declared.uneven.RaggedStand.{RaggedStand}
use Rattle.run_checkpoint.specs.BankEncoding.{banks_header, banks_bytes, banks_encoding, bank_len}
use Rattle.run_checkpoint.specs.Encoding.{encoding, flattened, FitsKind}
use Rattle.run_checkpoint.specs.Kinds.{sealed}
use Rattle.run_checkpoint.specs.declared.kinds.Kind.TheVariants as kinds
use Rattle.run_checkpoint.specs.Lengths.{encoding_len}
use Rattle.run_checkpoint.proofs.Forms.{length-sealed}
use Rattle.run_checkpoint.proofs.BankClauses.{length-banks_header}
use Rattle.scalar_rule.specs.Plan.{Plan, slots_of}
use Rattle.glass_engine.specs.BankPieces.{ends_in}
use Rattle.glass_engine.proofs.BankDrives.{same-count}
use Rattle.glass_engine.proofs.BankSavings.{fits-at, bytes-step, bytes-end, long-step, len-at, left-enough}
use Rattle.glass_engine.proofs.placing.encode_banks.Goals as goal

pub banks-init : goal.banks-init
banks-init c =
    let begun = c.begin_banks.ensures.bytes in
    let long = ap length begun ∙ length-banks_header _ in
    record {
      bytes = ap (λ bs. bs ++ banks_bytes (map arc_value c.args.plans.now) (ends_in c.args.driven.now)) begun;
      long = omega (arith, long);
      total = omega (arith, long, c.begin_banks.ensures.spare);
    }

pub encode-requires-clause-fits : goal.encode-requires-clause-fits
encode-requires-clause-fits c =
    let stand : c.stand.result.now ≡ c.index-driven-bank.result.ended.stand = c.stand.ensures ∙ ap (λ (e : RaggedEndedView). e.stand) c.ended.ensures in
    let fits = fits-at arc_value c.args.plans.now c.args.driven.now c.requires.plans c.banks.bank c.banks-test.true c.index-plans-bank.result c.index-plans-bank.is c.index-driven-bank.result c.index-driven-bank.is c.requires.level in
    subst (λ (p : Plan). FitsKind kinds.Level p c.stand.result.now) (sym c.deref.ensures) (subst (λ (s : RaggedStand). FitsKind kinds.Level (arc_value c.index-plans-bank.result) s) (sym stand) fits)

pub encode-requires-clause-spare : goal.encode-requires-clause-spare
encode-requires-clause-spare c =
    let len = bank_len (map arc_value c.args.plans.now) in
    let own : encoding_len c.deref.result.now.size (slots_of c.deref.result.now) ≡ len =
    ap (λ (p : Plan). encoding_len p.size (slots_of p)) c.deref.ensures ∙ sym (len-at arc_value c.args.plans.now c.args.driven.now c.requires.plans c.banks.bank c.banks-test.true c.index-plans-bank.result c.index-plans-bank.is c.index-driven-bank.result c.index-driven-bank.is c.requires.shape) in
    let count : length (map arc_value c.args.plans.now) ≡ length c.args.driven.now = length-map c.args.plans.now arc_value ∙ same-count arc_value c.args.plans.now c.args.driven.now c.requires.plans in
    let all = ap (λ n. len * n) count in
    let left = left-enough len c.banks.bank (length c.args.driven.now) c.banks-test.true in
    omega (arith, own, all, left, c.banks.invariant.long, c.banks.invariant.total, c.requires.spare)

pub banks-preserved : goal.banks-preserved
banks-preserved c =
    let len = bank_len (map arc_value c.args.plans.now) in
    let stand : c.stand.result.now ≡ c.index-driven-bank.result.ended.stand = c.stand.ensures ∙ ap (λ (e : RaggedEndedView). e.stand) c.ended.ensures in
    let put = c.encode.ensures.bytes ∙ ap (λ (p : Plan). c.banks.room.bytes ++ encoding p (λ b. part p.size b (flattened c.stand.result.now))) c.deref.ensures in
    let own : encoding_len c.deref.result.now.size (slots_of c.deref.result.now) ≡ len =
    ap (λ (p : Plan). encoding_len p.size (slots_of p)) c.deref.ensures ∙ sym (len-at arc_value c.args.plans.now c.args.driven.now c.requires.plans c.banks.bank c.banks-test.true c.index-plans-bank.result c.index-plans-bank.is c.index-driven-bank.result c.index-driven-bank.is c.requires.shape) in
    let long = long-step arc_value c.args.plans.now c.args.driven.now c.requires.plans c.banks.bank c.banks-test.true c.index-plans-bank.result c.index-plans-bank.is c.index-driven-bank.result c.index-driven-bank.is c.requires.level c.requires.shape _ _ c.stand.result.now stand put in
    let more : len * (c.banks.bank + 1) ≡ len * c.banks.bank + len = grind arith in
    record {
      bytes = bytes-step arc_value c.args.plans.now c.args.driven.now c.requires.plans c.banks.bank c.banks-test.true c.index-plans-bank.result c.index-plans-bank.is c.index-driven-bank.result c.index-driven-bank.is _ _ _ c.stand.result.now stand put c.banks.invariant.bytes;
      long = omega (arith, long, more, c.banks.invariant.long);
      total = omega (arith, long, own, c.encode.ensures.spare, c.banks.invariant.total);
    }

pub returns-clause-bytes : goal.returns-clause-bytes
unfolding banks_encoding
returns-clause-bytes c =
    let plans = map arc_value c.args.plans.now in
    let count : length plans ≡ length c.args.driven.now = length-map c.args.plans.now arc_value ∙ same-count arc_value c.args.plans.now c.args.driven.now c.requires.plans in
    c.end_banks.ensures.bytes
    ∙ ap sealed (bytes-end arc_value c.args.plans.now c.args.driven.now c.requires.plans c.banks.bank c.banks-test.false _ _ c.banks.invariant.bytes)
    ∙ ap (λ n. sealed (banks_header n ++ banks_bytes plans (ends_in c.args.driven.now))) (sym count)

pub returns-clause-total : goal.returns-clause-total
returns-clause-total c =
    let long = ap length c.end_banks.ensures.bytes ∙ length-sealed c.banks.room.bytes in
    omega (arith, long, c.end_banks.ensures.spare, c.banks.invariant.total)
