-- A body as a tree, whose pieces are spelled by the grammar for its elements.
use Rattle.std.specs.Prelude.{◌≡◌, ℕ, zero, suc, ◌+◌, Bool, true, false, ◌&&◌, not, List, [], ◌∷◌, ◌++◌, length, None, Some, unwrap_or, bytes_eq, refl}
use Rattle.std.proofs.Common.{sym, ◌∙◌, ap, subst, arith, append_assoc}
use Rattle.std.proofs.lemmas.Bool.{false≢true, not-true}
use Rattle.std.proofs.lemmas.List.{append-nil}
use Rattle.std.proofs.lemmas.Slice.Eq.{bytes_eq-Decides}
use Rattle.std.proofs.Math.ListN.{length-append}
use Rattle.grammar_rules.specs.Rules.{Rule, followed_by, allowed, without, some_members}
use Rattle.grammar_rules.proofs.Printing.{spelled-token, spelled-allowed}
use Rattle.request_elements.specs.Elements.{name_of, is_leaf, is_child, same_element}
use Rattle.request_elements.specs.Pieces.{start_tag, end_tag, Symbol}
use Rattle.request_elements.specs.TextValue.{text_value}
use Rattle.request_elements.specs.Grammar.{starts_element, ends_element, blanks, start_of, end_of, characters, taken, found_alone, joined, leaf as leaf_rule, container, children, element_within}
use Rattle.select_request.specs.Printed.{Part, opens, leaf, closes, escaped, start_tag as start_bytes, print_part, print_parts}
use Rattle.request_elements.specs.declared.element.Element.{Element}
use Rattle.request_elements.specs.declared.found.Found.{Found}
use Rattle.select_request.proofs.Printables.{and_left, and_right}
use Rattle.std.proofs.lemmas.Str.{IsUtf8-nil}
use Rattle.select_request.proofs.Resolved.{text_value_escaped}
use Rattle.select_request.proofs.PrintedElements.{found_in}
use Rattle.select_request.proofs.PrintedPieces.{symbol, raw_symbols, leaf_symbols, symbols_in}

-- ---- trees

-- an element with a text, or with others in it
mutual
  pub data Tree : Type 0 where
    with_text : Element → List ℕ → Tree
    node : Element → Trees → Tree

  pub data Trees : Type 0 where
    none : Trees
    tree : Tree → Trees → Trees

abbrev pub root_of : Tree → Element
root_of (with_text e t) = e
root_of (node e ts) = e

abbrev mutual
  pub tree_parts : Tree → List Part
  tree_parts (with_text e t) = leaf e t ∷ []
  tree_parts (node e ts) = opens e ∷ (trees_parts ts ++ closes e ∷ [])

  pub trees_parts : Trees → List Part
  trees_parts none = []
  trees_parts (tree t ts) = tree_parts t ++ trees_parts ts

-- whether the element is a leaf where others may be nested so deep
abbrev pub is_leaf_within : ℕ → Element → Bool
is_leaf_within zero e = true
is_leaf_within (suc depth) e = is_leaf e

abbrev pub each_element : Element → Bool
each_element e = true

-- whether each element stands where it may, and once
abbrev mutual
  pub is_tree : Tree → ℕ → Bool
  is_tree (with_text e t) depth = is_leaf_within depth e
  is_tree (node e ts) zero = false
  is_tree (node e ts) (suc depth) = not (is_leaf e) && are_trees ts depth e each_element

  pub are_trees : Trees → ℕ → Element → (Element → Bool) → Bool
  are_trees none depth parent free = true
  are_trees (tree t ts) depth parent free =
      free (root_of t) && is_child parent (root_of t) && is_tree t depth && are_trees ts depth parent (without same_element (root_of t) free)

-- each text is read back
abbrev mutual
  pub TreeReads : Tree → Type 0
  TreeReads (with_text e t) = text_value (escaped t) ≡ Some t
  TreeReads (node e ts) = TreesRead ts

  pub TreesRead : Trees → Type 0
  TreesRead none = Unit {0}
  TreesRead (tree t ts) = TreeReads t × TreesRead ts

-- ---- parts one after the other

abbrev symbols_part : ℕ → Part → List Symbol
symbols_part at (opens e) = symbol at (start_tag (name_of e)) ∷ []
symbols_part at (leaf e t) = leaf_symbols at e (escaped t)
symbols_part at (closes e) = symbol at (end_tag (name_of e)) ∷ []

symbols_cons : (x : Part) (xs : List Part) (at : ℕ) → symbols_in at (x ∷ xs) ≡ symbols_part at x ++ symbols_in (at + length (print_part x)) xs
symbols_cons (opens e) xs at = refl
symbols_cons (leaf e t) xs at = refl
symbols_cons (closes e) xs at = refl

pub symbols_append : (xs ys : List Part) (at : ℕ) → symbols_in at (xs ++ ys) ≡ symbols_in at xs ++ symbols_in (at + length (print_parts xs)) ys
symbols_append [] ys at = let e : at ≡ at + 0 = omega arith in ap (λ n. symbols_in n ys) e
symbols_append (x ∷ xs) ys at =
    let after = at + length (print_part x) in
    let end = at + length (print_part x ++ print_parts xs) in
    let e : after + length (print_parts xs) ≡ end = omega (arith, length-append (print_part x) (print_parts xs)) in
    symbols_cons x (xs ++ ys) at
    ∙ ap (λ t. symbols_part at x ++ t) (symbols_append xs ys after ∙ ap (λ n. symbols_in after xs ++ symbols_in n ys) e)
    ∙ sym (append_assoc (symbols_part at x) (symbols_in after xs) (symbols_in end ys))
    ∙ ap (λ t. t ++ symbols_in end ys) (sym (symbols_cons x xs at))

abbrev found_part : ℕ → Part → List Found
found_part at (opens e) = found_alone e at []
found_part at (leaf e t) = found_alone e at t
found_part at (closes e) = []

found_cons : (x : Part) (xs : List Part) (at : ℕ) → found_in at (x ∷ xs) ≡ found_part at x ++ found_in (at + length (print_part x)) xs
found_cons (opens e) xs at = refl
found_cons (leaf e t) xs at = refl
found_cons (closes e) xs at = refl

pub found_append : (xs ys : List Part) (at : ℕ) → found_in at (xs ++ ys) ≡ found_in at xs ++ found_in (at + length (print_parts xs)) ys
found_append [] ys at = let e : at ≡ at + 0 = omega arith in ap (λ n. found_in n ys) e
found_append (x ∷ xs) ys at =
    let after = at + length (print_part x) in
    let end = at + length (print_part x ++ print_parts xs) in
    let e : after + length (print_parts xs) ≡ end = omega (arith, length-append (print_part x) (print_parts xs)) in
    found_cons x (xs ++ ys) at
    ∙ ap (λ t. found_part at x ++ t) (found_append xs ys after ∙ ap (λ n. found_in after xs ++ found_in n ys) e)
    ∙ sym (append_assoc (found_part at x) (found_in after xs) (found_in end ys))
    ∙ ap (λ t. t ++ found_in end ys) (sym (found_cons x xs at))

-- ---- the rules

same_bytes : (xs : List ℕ) → bytes_eq xs xs ≡ true
same_bytes xs = (bytes_eq-Decides xs xs).1 refl

pub no_blanks : blanks.Spells None []
no_blanks = (false, (refl, refl))

start_spelled : (e : Element) (at : ℕ) → (start_of e).Spells (symbol at (start_tag (name_of e))) (symbol at (start_tag (name_of e)) ∷ [])
start_spelled e at = spelled-token (λ s. starts_element e s.piece) (symbol at (start_tag (name_of e))) (same_bytes (name_of e))

end_spelled : (e : Element) (at : ℕ) → (end_of e).Spells (symbol at (end_tag (name_of e))) (symbol at (end_tag (name_of e)) ∷ [])
end_spelled e at = spelled-token (λ s. ends_element e s.piece) (symbol at (end_tag (name_of e))) (same_bytes (name_of e))

empty_text : (t : List ℕ) → text_value [] ≡ Some t → [] ≡ t
empty_text t h = ap (λ o. unwrap_or o []) (sym (text_value_escaped [] IsUtf8-nil refl) ∙ h)

characters_spelled : (at : ℕ) (raw t : List ℕ) → text_value raw ≡ Some t → characters.Spells t (raw_symbols at raw)
characters_spelled at [] t h = (None, empty_text t h, (false, (refl, refl)))
characters_spelled at (b ∷ raw) t h = (Some t, refl, (true, (t, refl, ap taken h)))

leaf_spelled : (e : Element) (at : ℕ) (raw t : List ℕ) → text_value raw ≡ Some t → (leaf_rule e).Spells (found_alone e at t) (leaf_symbols at e raw)
leaf_spelled e at raw t h =
    let start = symbol at (start_tag (name_of e)) in
    let middle = raw_symbols (at + length (start_bytes e)) raw in
    let end = symbol (at + length (start_bytes e) + length raw) (end_tag (name_of e)) in (
      false,
      (
        (start, t),
        refl,
        record {
          value = start;
          left = start ∷ [];
          right = middle ++ end ∷ [];
          joined = refl;
          whole = start_spelled e at;
          after = (
            t,
            refl,
            record {
              value = t;
              left = middle;
              right = end ∷ [];
              joined = refl;
              whole = characters_spelled (at + length (start_bytes e)) raw t h;
              after = (end, refl, end_spelled e (at + length (start_bytes e) + length raw));
            },
          );
        },
      ),
    )

container_spelled : (e : Element) (C : Rule Symbol ⊥ (List Found)) (at last : ℕ) (found : List Found) (symbols : List Symbol) → C.Spells found symbols
    → (container e C).Spells (record { element = e; at = at; text = [] } ∷ found) (symbol at (start_tag (name_of e)) ∷ (symbols ++ symbol last (end_tag (name_of e)) ∷ []))
container_spelled e C at last found symbols h =
    let start = symbol at (start_tag (name_of e)) in
    let end = symbol last (end_tag (name_of e)) in (
      false,
      (
        (start, found),
        refl,
        record {
          value = start;
          left = start ∷ [];
          right = symbols ++ end ∷ [];
          joined = refl;
          whole = start_spelled e at;
          after = (
            found,
            refl,
            record {
              value = None;
              left = [];
              right = symbols ++ end ∷ [];
              joined = refl;
              whole = no_blanks;
              after = record { value = found; left = symbols; right = end ∷ []; joined = refl; whole = h; after = (end, refl, end_spelled e last) };
            },
          );
        },
      ),
    )

-- the rule of an element that stands in this one
abbrev pub child_rule : Element → (Element → Rule Symbol ⊥ (List Found)) → Element → Rule Symbol ⊥ (List Found)
child_rule parent element c = allowed (is_child parent c) (followed_by (element c) blanks)

child_spelled : (parent : Element) (element : Element → Rule Symbol ⊥ (List Found)) (c : Element) (found : List Found) (symbols : List Symbol)
    → is_child parent c ≡ true → (element c).Spells found symbols → (child_rule parent element c).Spells found symbols
child_spelled parent element c found symbols h w =
    spelled-allowed (followed_by (element c) blanks) found symbols (record {
      value = found;
      left = symbols;
      right = [];
      joined = sym (append-nil symbols);
      whole = w;
      after = (None, refl, no_blanks);
    }) (is_child parent c) h

members_end : (parent : Element) (element : Element → Rule Symbol ⊥ (List Found)) (free : Element → Bool) → (some_members same_element (child_rule parent element) 0 free).Spells [] []
members_end parent element free = (refl, refl)

members_more : (parent : Element) (element : Element → Rule Symbol ⊥ (List Found)) (n : ℕ) (free : Element → Bool) (c : Element) (found : List Found) (symbols : List Symbol)
    (ms : List (Element × List Found)) (later : List Symbol) → free c ≡ true → is_child parent c ≡ true → (element c).Spells found symbols
    → (some_members same_element (child_rule parent element) n (without same_element c free)).Spells ms later
    → (some_members same_element (child_rule parent element) (suc n) free).Spells ((c, found) ∷ ms) (symbols ++ later)
members_more parent element n free c found symbols ms later is_free child w h = (
  true,
  record {
    value = (c, found);
    left = symbols;
    right = later;
    joined = refl;
    whole = (c, (found, refl, spelled-allowed (child_rule parent element c) found symbols (child_spelled parent element c found symbols child w) (free c) is_free));
    after = (ms, refl, h);
  },
)

-- ---- a tree is spelled

-- how many stand in it
abbrev pub count : Trees → ℕ
count none = 0
count (tree t ts) = suc (count ts)

-- each with the elements found in it
abbrev pub members_of : Trees → ℕ → List (Element × List Found)
members_of none at = []
members_of (tree t ts) at = (root_of t, found_in at (tree_parts t)) ∷ members_of ts (at + length (print_parts (tree_parts t)))

joined_members : (ts : Trees) (at : ℕ) → joined (members_of ts at) ≡ found_in at (trees_parts ts)
joined_members none at = refl
joined_members (tree t ts) at =
    ap (λ found. found_in at (tree_parts t) ++ found) (joined_members ts (at + length (print_parts (tree_parts t))))
    ∙ sym (found_append (tree_parts t) (trees_parts ts) at)

leaf_within : (depth : ℕ) (e : Element) (found : List Found) (symbols : List Symbol) → is_leaf_within depth e ≡ true → (leaf_rule e).Spells found symbols
    → (element_within depth e).Spells found symbols
unfolding element_within
leaf_within zero e found symbols h w = w
leaf_within (suc depth) e found symbols h w = rw h w

container_within : (depth : ℕ) (e : Element) (found : List Found) (symbols : List Symbol) → is_leaf e ≡ false
    → (container e (children e (element_within depth))).Spells found symbols → (element_within (suc depth) e).Spells found symbols
unfolding element_within
container_within depth e found symbols h w = rw h w

-- the place at which the parts end, and the end tag behind them
closed_symbols : (parts : List Part) (e : Element) (at : ℕ)
    → symbols_in at (parts ++ closes e ∷ []) ≡ symbols_in at parts ++ symbol (at + length (print_parts parts)) (end_tag (name_of e)) ∷ []
closed_symbols parts e at = symbols_append parts (closes e ∷ []) at

closed_found : (parts : List Part) (e : Element) (at : ℕ) → found_in at (parts ++ closes e ∷ []) ≡ found_in at parts
closed_found parts e at = found_append parts (closes e ∷ []) at ∙ append-nil (found_in at parts)

mutual
  pub tree_spelled : (t : Tree) (depth at : ℕ) → is_tree t depth ≡ true → TreeReads t → (element_within depth (root_of t)).Spells (found_in at (tree_parts t)) (symbols_in at (tree_parts t))
  tree_spelled (with_text e t) depth at valid reads =
      leaf_within depth e _ _ valid (subst (λ (z : List Symbol). (leaf_rule e).Spells (found_alone e at t) z) (sym (append-nil (leaf_symbols at e (escaped t)))) (leaf_spelled e at (escaped t) t reads))
  tree_spelled (node e ts) zero at valid reads = absurd (false≢true valid)
  tree_spelled (node e ts) (suc depth) at valid reads =
      let inner = at + length (print_part (opens e)) in
      let others = are_trees ts depth e each_element in
      let spelled = trees_spelled ts depth inner e each_element (and_right (not (is_leaf e)) others valid) reads in
      let children_are : (children e (element_within depth)).Spells (found_in inner (trees_parts ts)) (symbols_in inner (trees_parts ts)) =
      (members_of ts inner, joined_members ts inner, (count ts, spelled)) in
      let whole = container_spelled e (children e (element_within depth)) at (inner + length (print_parts (trees_parts ts))) (found_in inner (trees_parts ts)) (symbols_in inner (trees_parts ts)) children_are in
      container_within depth e _ _ (not-true (is_leaf e) (and_left (not (is_leaf e)) others valid))
      (rw (closed_symbols (trees_parts ts) e inner, closed_found (trees_parts ts) e inner) whole)

  trees_spelled : (ts : Trees) (depth at : ℕ) (parent : Element) (free : Element → Bool) → are_trees ts depth parent free ≡ true → TreesRead ts
      → (some_members same_element (child_rule parent (element_within depth)) (count ts) free).Spells (members_of ts at) (symbols_in at (trees_parts ts))
  trees_spelled none depth at parent free valid reads = members_end parent (element_within depth) free
  trees_spelled (tree t ts) depth at parent free valid reads =
      let c = root_of t in
      let later = are_trees ts depth parent (without same_element c free) in
      let front = and_left (free c && is_child parent c && is_tree t depth) later valid in
      let two = and_left (free c && is_child parent c) (is_tree t depth) front in
      let behind = at + length (print_parts (tree_parts t)) in
      rw (symbols_append (tree_parts t) (trees_parts ts) at)
      (members_more parent (element_within depth) (count ts) free c (found_in at (tree_parts t)) (symbols_in at (tree_parts t)) (members_of ts behind) (symbols_in behind (trees_parts ts))
      (and_left (free c) (is_child parent c) two) (and_right (free c) (is_child parent c) two)
      (tree_spelled t depth at (and_right (free c && is_child parent c) (is_tree t depth) front) reads.0)
      (trees_spelled ts depth behind parent (without same_element c free) (and_right (free c && is_child parent c && is_tree t depth) later valid) reads.1))
