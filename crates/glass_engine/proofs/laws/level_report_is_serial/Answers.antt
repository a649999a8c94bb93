use Rattle.glass_engine.proofs.LevelReports.{one-level}
use Rattle.glass_engine.proofs.laws.level_report_is_serial.Goals as goal

pub returns : goal.returns
returns c = λ run stand start d takes base fits stands ends. one-level run stand start d takes base fits stands ends
