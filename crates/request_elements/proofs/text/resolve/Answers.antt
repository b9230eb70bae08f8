-- One more reference is resolved, or one is wrong, or none is left.
use Rattle.std.proofs.Common.{◌∙◌, sym, rules}
use Rattle.std.specs.Prelude.{string_bytes}
use Rattle.request_elements.proofs.TextLaws.{resolved_step, resolved_fails, resolved_ends}
use Rattle.request_elements.proofs.text.resolve.Goals as goal

pub returns-in_default-reference : goal.returns-in_default-reference
returns-in_default-reference c =
    sym (c.references.invariant.resolves ∙ resolved_fails (string_bytes c.references.value) c.in-Some.before.now c.in-Some.rest.now c.references.left.now c.in-Some.ensures.0 c.in-Some.ensures.1 c.in_default-reference.ensures.reads)

pub references-preserved : goal.references-preserved
references-preserved c = record {
  text = search rules;
  resolves =
      rw (c.in_ok-push.ensures.bytes, c.in_ok-push_str.ensures.bytes)
      (c.references.invariant.resolves ∙ resolved_step (string_bytes c.references.value) c.in-Some.before.now c.in-Some.rest.now c.references.left.now c.in-Some-reference.behind.now c.in-Some-reference.character c.in-Some.ensures.0 c.in-Some.ensures.1 c.in-Some-reference.ensures.reads);
}

pub returns : goal.returns
returns c =
    rw (c.from_string.ensures, c.in_ok-push_str-2.ensures.bytes)
    (sym (c.references.invariant.resolves ∙ resolved_ends (string_bytes c.references.value) c.references.left.now c.in_default.ensures))
