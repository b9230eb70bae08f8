use Rattle.select_job.proofs.Asking.{refused_query}
use Rattle.select_job.proofs.asked.refuse_query.Goals as goal

pub returns-in-Refused : goal.returns-in-Refused
returns-in-Refused c = refused_query c.args.request.now c.in-Refused.error c.sql_code.result (c.requires c.in-Refused.error c.in-Refused.is) c.sql_code.ensures
