-- Each slot's word is its progress number.
use Rattle.std.proofs.Common.{arith, ◌≡◌, ◌∙◌, ℕ, ◌<◌, List, ◌++◌, ◌∷◌, [], inl, inr, subst, sym, ap₂}
use Rattle.std.proofs.lemmas.List.{take_more, take_all}
use Rattle.std.proofs.lemmas.Bool.{cases_lt}
use Rattle.exchange_board.specs.Machine.{phases}
use Rattle.exchange_board.specs.Views.{words_of}
use Rattle.shared_board.proofs.Words.{word-at, words-long}
use Rattle.shared_board.proofs.opening.words.Goals as goal

pub words-preserved : goal.words-preserved
words-preserved c =
    let count = c.slots-slots.ensures.count in
    let test = c.words-test.true in
    let long = words-long c.args.board.now.places in
    let word = c.progress.ensures.value ∙ sym (word-at c.args.board.now.places c.words.slot) in
    record {
      -- the type is named, since it would be found with the calls' values written out
      words = ◌∙◌ {A = List ℕ} c.in_ok-push.ensures.items (ap₂ (λ (l : List ℕ) (n : ℕ). l ++ n ∷ []) c.words.invariant.words word ∙ sym (take_more (words_of c.args.board.now) c.words.slot 0 (omega arith)));
      phased = λ t h. elim (cases_lt t c.words.slot) [
        | inl before ↦ c.words.invariant.phased t before
        | inr last ↦ let same : c.words.slot ≡ t = omega arith in subst (λ k. phases c.args.board.now.places k < 3) same c.progress.ensures.phase
      ];
    }

pub returns-clause-words : goal.returns-clause-words
returns-clause-words c =
    let count = c.slots-slots.ensures.count in
    let long = words-long c.args.board.now.places in
    c.words.invariant.words ∙ take_all c.words.slot (words_of c.args.board.now) (omega (arith, c.words-test.false))

pub returns-clause-phased : goal.returns-clause-phased
returns-clause-phased c t h =
    let count = c.slots-slots.ensures.count in
    c.words.invariant.phased t (omega (arith, c.words-test.false))
