use Rattle.select_tool.proofs.EndingLaws.{refused}
use Rattle.select_tool.proofs.commands.run_list.Goals as goal

pub returns-in-Err-clause-eight : goal.returns-in-Err-clause-eight
returns-in-Err-clause-eight g c =
    refused c.in-Err.trouble c.args.listing _ _ _ _ _ _ _ _ _ _ _ c.in-Err.ensures.cause c.report.ensures.line c.report.ensures.status
