use Rattle.std.proofs.Common.{Err, sym, ◌∙◌}
use Rattle.parquet_footer.proofs.CheckLaws.{gives_checked, footer_is, gives_error, told_size, stands_for}
use Rattle.parquet_footer.proofs.footer.Footer.read.Goals as goal

pub returns-in-Ok-clause-told : goal.returns-in-Ok-clause-told
returns-in-Ok-clause-told g c =
    λ object tells footer of. gives_checked footer _ c.check.result (sym of.is ∙ footer_is object of.fields c.args.size c.in-Ok.file (told_size _ object c.args.size c.requires.object tells) (c.in-Ok.ensures.told object tells of.fields of.tree)) c.check.ensures.given

pub returns-in-Ok-clause-stands : goal.returns-in-Ok-clause-stands
returns-in-Ok-clause-stands g c =
    λ object tells. stands_for object c.check.result (c.in-Ok.ensures.tree object tells) (λ fields tree. gives_checked _ _ c.check.result (footer_is object fields c.args.size c.in-Ok.file (told_size _ object c.args.size c.requires.object tells) (c.in-Ok.ensures.told object tells fields tree)) c.check.ensures.given)

pub returns-in-Err-clause-told : goal.returns-in-Err-clause-told
returns-in-Err-clause-told g c =
    λ object tells footer of. gives_checked footer _ (Err c.in-Err.error) (sym of.is) (gives_error object of.fields c.in-Err.error (c.in-Err.ensures.told object tells of.fields of.tree))
