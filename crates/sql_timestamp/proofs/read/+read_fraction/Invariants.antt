use Rattle.sql_timestamp.proofs.read.+read_fraction.Given as goal

abbrev pub decreases-read_fraction : goal.decreases-read_fraction
decreases-read_fraction l = l.places
