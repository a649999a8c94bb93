use Rattle.glass_engine.proofs.LevelReports.{banks-level}
use Rattle.glass_engine.proofs.laws.banks_report_is_serial.Goals as goal

pub returns : goal.returns
returns c = λ plans stands starts orders until kind ds few s are ends. banks-level plans stands starts orders until kind ds few s are ends
