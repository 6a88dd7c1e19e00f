use Rattle.flight_view.proofs.Viewers.{loads_begun}
use Rattle.flight_view.proofs.viewer.Viewer.is_viewing.Goals as goal

pub returns-in_default : goal.returns-in_default
returns-in_default c = record { yes = λ q shape loads is none. loads_begun shape loads c.args.self.now is c.in_default.not-Head none; no = λ q. cc }
