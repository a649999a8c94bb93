use Rattle.spin_model.proofs.Streams.{stream_word-first, stream_word-lags}
use Rattle.spin_model.proofs.laws.stream_is_recurrence.Goals as goal

pub returns : goal.returns
returns c = λ w k sized. (stream_word-first w k sized, stream_word-lags w k sized)
