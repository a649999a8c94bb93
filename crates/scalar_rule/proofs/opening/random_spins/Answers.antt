use Rattle.std.proofs.Common.{rules, ◌≡◌, ◌+◌, ◌*◌, ◌/◌, ◌%◌, ◌++◌, ◌∷◌, [], sym, ap, ◌∙◌, arith}
use Rattle.spin_model.specs.Stream.{advanced, draw}
use Rattle.spin_model.specs.Words.{is_set}
use Rattle.spin_model.proofs.Streams.{advanced-zero, advanced-advanced, draw-advanced}
use Rattle.spin_model.proofs.Tables.{table-zero, table-more}
use Rattle.scalar_rule.proofs.opening.random_spins.Goals as goal

pub sites-init : goal.sites-init
sites-init c = record {
  wheel = sym (advanced-zero c.args.wheel.now);
  spins = c.in_ok-spins.ensures.items ∙ sym (table-zero _);
}

pub sites-preserved : goal.sites-preserved
sites-preserved c =
    let w = c.args.wheel.now in
    let b = c.args.bit in
    let n = c.sites.counter in
    let pushed : c.push.new.self.items ≡ c.sites.spins.items ++ c.random_spin.result ∷ [] = search rules in
    let spin : c.random_spin.result ≡ is_set (draw w (2 * n + b / 32)) (b % 32) =
    c.random_spin.ensures.spin
    ∙ ap (λ v. is_set (draw v (b / 32)) (b % 32)) c.sites.invariant.wheel
    ∙ ap (λ v. is_set v (b % 32)) (draw-advanced w (2 * n) (b / 32)) in
    let further : 2 * n + 2 ≡ 2 * (n + 1) = omega arith in
    record {
      wheel = c.random_spin.ensures.moved ∙ ap (λ v. advanced v 2) c.sites.invariant.wheel ∙ advanced-advanced w (2 * n) 2 ∙ ap (advanced w) further;
      spins = pushed ∙ rw (c.sites.invariant.spins, spin) (sym (table-more _ _));
    }
