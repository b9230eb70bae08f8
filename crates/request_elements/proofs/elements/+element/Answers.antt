-- The functions on elements follow their readers.
use Rattle.std.proofs.Common.{◌≡◌, ◌-◌, ◌++◌, ◌∙◌, suc, [], sym, ap, refl, arith, drop}
use Rattle.std.proofs.lemmas.Result.{err_from_is_err_and}
use Rattle.std.proofs.lemmas.List.{length-set}
use Rattle.grammar_rules.specs.Readers.{closed_by}
use Rattle.grammar_rules.specs.Placed.{first_place}
use Rattle.request_elements.specs.Grammar.{is_blank_piece, ends_element, found_alone}
use Rattle.request_elements.specs.Readers.{behind_blanks, read_container, read_children, read_element, free_of, first_child, onto}
use Rattle.request_elements.proofs.ChildLaws.{all_are_free, free_marked}
use Rattle.request_elements.proofs.ReaderSteps.{children_begin, children_step, children_fail, children_stop, free_child, element_passes, behind_shorter, fails_on, close_gives, container_whole, container_refused, container_opened, onto_closed, onto_failed, element_leaf, element_zero, element_other}
use Rattle.request_elements.proofs.elements.+element.Goals as goal

pub children-children-init : goal.children-children-init
children-children-init t c = record {
  reads = rw all_are_free (children_begin c.args.parent c.args.depth c.args.found.now.items c.args.pieces.now);
  marks = refl;
}

pub children-children-smaller : goal.children-children-smaller
children-children-smaller t c =
    let l = element_passes c.args.depth c.in-Some.child c.children.found.items c.element.new.found.items c.children.pieces c.element.new.pieces c.in_ok-element.ensures in
    let b = behind_shorter (λ s. is_blank_piece s.piece) c.element.new.pieces in
    rw c.skip_blanks.ensures (omega arith)

pub children-children-preserved : goal.children-children-preserved
children-children-preserved t c =
    let f = free_child (free_of c.children.taken) (first_child c.args.parent c.children.pieces) c.in-Some.child c.in-Some.ensures in
    record {
      reads =
          c.children.invariant.reads
          ∙ (children_step c.args.parent c.args.depth c.children.found.items c.element.new.found.items (free_of c.children.taken) c.children.pieces c.element.new.pieces c.in-Some.child f.0 f.1 c.in_ok-element.ensures
          ∙ rw (c.skip_blanks.ensures, free_marked c.children.taken c.in-Some.child c.number.result c.number.ensures.value c.children.invariant.marks) refl);
      marks = length-set c.children.taken c.number.result _ ∙ c.children.invariant.marks;
    }

pub children-returns : goal.children-returns
children-returns t c =
    c.children.invariant.reads
    ∙ children_stop c.args.parent c.args.depth c.children.found.items (free_of c.children.taken) c.children.pieces (sym c.in_default.ensures)

pub children-returns-in_err-element : goal.children-returns-in_err-element
children-returns-in_err-element t c =
    let p = err_from_is_err_and c.from_residual.result c.from_residual.ensures.1 in
    let f = free_child (free_of c.children.taken) (first_child c.args.parent c.children.pieces) c.in-Some.child c.in-Some.ensures in
    rw (p.1, p.2)
    (fails_on (Unit {0}) (onto c.children.found.items (read_element c.args.depth c.in-Some.child c.children.pieces)) (onto c.args.found.now.items (read_children c.args.parent (read_element c.args.depth) c.args.pieces.now)) c.in_err-element.field-0.0 c.element.new.found.items c.element.new.found.items c.element.new.pieces
    (λ h. c.children.invariant.reads ∙ children_fail c.args.parent c.args.depth c.children.found.items (free_of c.children.taken) c.children.pieces c.element.new.pieces c.in-Some.child f.0 f.1 h)
    c.in_err-element.ensures)

pub container-returns-then-is_whole : goal.container-returns-then-is_whole
container-returns-then-is_whole t c =
    rw (container_whole c.args.element (read_children c.args.element (read_element c.args.depth)) c.args.pieces.now (sym c.is_whole.ensures ∙ c.if-is_whole.true)) c.whole.ensures

pub container-returns-then-not-starts : goal.container-returns-then-not-starts
container-returns-then-not-starts t c =
    rw (container_refused c.args.element (read_children c.args.element (read_element c.args.depth)) c.args.pieces.now (sym c.is_whole.ensures ∙ c.if-is_whole.false) (sym c.starts.ensures ∙ c.if-not-starts.true)) refl

pub container-returns-in_err-children : goal.container-returns-in_err-children
container-returns-in_err-children t c =
    let p = err_from_is_err_and c.from_residual-in_err-children.result c.from_residual-in_err-children.ensures.1 in
    let o = container_opened c.args.element (read_children c.args.element (read_element c.args.depth)) c.args.found.now.items c.args.pieces.now (sym c.is_whole.ensures ∙ c.if-is_whole.false) (sym c.starts.ensures ∙ c.if-not-starts.false) in
    let before = c.in_ok-push_empty.ensures ∙ ap (λ n. c.args.found.now.items ++ found_alone c.args.element n []) c.place.ensures in
    let at = c.skip_blanks.ensures ∙ ap behind_blanks c.skip.ensures in
    rw (p.1, p.2)
    (fails_on (Unit {0}) (onto c.push_empty.new.found.items (read_children c.args.element (read_element c.args.depth) c.skip_blanks.new.pieces)) (onto c.args.found.now.items (read_container c.args.element (read_children c.args.element (read_element c.args.depth)) c.args.pieces.now)) c.in_err-children.field-0.0 c.children.new.found.items c.children.new.found.items c.children.new.pieces
    (λ h. o ∙ onto_failed (c.args.found.now.items ++ found_alone c.args.element (first_place 0 c.args.pieces.now) []) (closed_by (λ s. ends_element c.args.element s.piece)) (read_children c.args.element (read_element c.args.depth) (behind_blanks (drop 1 c.args.pieces.now))) c.children.new.pieces (rw (before, at) at h))
    c.in_err-children.ensures)

pub container-returns : goal.container-returns
container-returns t c =
    let o = container_opened c.args.element (read_children c.args.element (read_element c.args.depth)) c.args.found.now.items c.args.pieces.now (sym c.is_whole.ensures ∙ c.if-is_whole.false) (sym c.starts.ensures ∙ c.if-not-starts.false) in
    let before = c.in_ok-push_empty.ensures ∙ ap (λ n. c.args.found.now.items ++ found_alone c.args.element n []) c.place.ensures in
    let at = c.skip_blanks.ensures ∙ ap behind_blanks c.skip.ensures in
    let read = onto_closed (c.args.found.now.items ++ found_alone c.args.element (first_place 0 c.args.pieces.now) []) (λ s. ends_element c.args.element s.piece) (read_children c.args.element (read_element c.args.depth) (behind_blanks (drop 1 c.args.pieces.now))) c.children.new.found.items c.children.new.pieces (rw (before, at) at c.in_ok-children.ensures) in
    close_gives c.args.element (onto c.args.found.now.items (read_container c.args.element (read_children c.args.element (read_element c.args.depth)) c.args.pieces.now)) c.close.result c.children.new.found.items c.children.new.pieces c.close.new.pieces (o ∙ read) c.close.ensures

pub element-returns-then-is_leaf : goal.element-returns-then-is_leaf
element-returns-then-is_leaf t c = rw (element_leaf c.args.depth c.args.element c.args.pieces.now (sym c.is_leaf.ensures ∙ c.if-is_leaf.true)) c.leaf.ensures

pub element-returns-then-depth-eq0 : goal.element-returns-then-depth-eq0
element-returns-then-depth-eq0 t c = rw (c.if-depth-eq0.true, element_zero c.args.element c.args.pieces.now) c.leaf-then-depth-eq0.ensures

pub element-returns : goal.element-returns
element-returns t c =
    let d : c.args.depth ≡ suc (c.args.depth - 1) = omega (arith, c.if-depth-eq0.false) in
    rw (element_other c.args.depth (c.args.depth - 1) c.args.element c.args.pieces.now (sym c.is_leaf.ensures ∙ c.if-is_leaf.false) d) c.container.ensures
