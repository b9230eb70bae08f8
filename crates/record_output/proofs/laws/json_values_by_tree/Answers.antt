use Rattle.record_output.proofs.ReadBack.{json_by_tree, csv_by_tree}
use Rattle.record_output.proofs.laws.json_values_by_tree.Goals as goal

pub returns : goal.returns
returns c = record { json = json_by_tree; csv = csv_by_tree }
