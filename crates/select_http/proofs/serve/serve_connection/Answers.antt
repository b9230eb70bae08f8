use Rattle.select_http.proofs.Serving.{serves_none}
use Rattle.select_http.proofs.serve.serve_connection.Goals as goal

pub returns-in_default-clause-serves : goal.returns-in_default-clause-serves
returns-in_default-clause-serves g c = serves_none _ _ _
