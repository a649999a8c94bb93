use Rattle.spin_model.proofs.Colours.{differs, colour-forward, colour-backward}
use Rattle.spin_model.proofs.laws.neighbours_have_other_colour.Goals as goal

pub returns : goal.returns
returns c = λ l i d lawful within direction. (differs _ _ (colour-forward l i d lawful within), differs _ _ (colour-backward l i d lawful within))
