-- A text's end, and that each state of the reader can be brought to one.
use Rattle.std.proofs.Common.{◌≡◌, ℕ, inl, inr, Bool, true, false, List, [], ◌∷◌, ◌++◌, refl, sym, ◌∙◌, subst}
use Rattle.json_text.specs.Grammar.{Json, null, truth, number, string, empty_array, array, empty_object, object, Elements, no_elements, more_elements, Members, no_members, more_members, Number, unsigned, negative, Int, zero_int, nonzero_int, print_int, print_number, Frac, no_frac, frac, print_frac, Exp, no_exp, unsigned_exp, signed_exp, print_exp, print, print_elements, print_members, IsValue}
use Rattle.json_text.specs.Machine.{may_end, may_end_value, may_end_number}
use Rattle.json_text.specs.declared.machine.Mode.{Mode}
use Rattle.json_text.specs.declared.machine.Mode.TheVariants.{ValueDue, ElementDue, NameDue, FirstNameDue, ColonDue, Ended, InWord, InNumber, InText, InName}
use Rattle.json_text.specs.declared.machine.Letters.{Letters}
use Rattle.json_text.specs.declared.machine.Letters.TheVariants.{Ull, Ll, L, Rue, Ue, E, Alse, Lse, Se}
use Rattle.json_text.specs.declared.machine.Digits.{Digits}
use Rattle.json_text.specs.declared.machine.Digits.TheVariants.{AfterMinus, AfterZero, InInt, AfterPoint, InFrac, AfterE, AfterSign, InExp}
use Rattle.json_text.specs.declared.machine.Part.{Part}
use Rattle.json_text.specs.declared.machine.Part.TheVariants.{Inside, Escape, CodeDue, AfterD, Three, Two, One, HighTwo, HighOne, LowEscape, LowMark, LowD, LowDigit}
use Rattle.json_text.proofs.Strings.{Tail, nothing}
use Rattle.json_text.proofs.Numbers.{NumberTail, FracThen, ExpThen, digits_none, digit_first, exp_none, frac_none, int_zero}
use Rattle.json_text.proofs.Follows.{StringThen, NumberThen, letters, After, ValueNext, ColonNext, NameNext, Follows}

-- ---- what can't be at an end

behind : (blanks us : List ℕ) → ([] ≡ us → ⊥) → [] ≡ blanks ++ us → ⊥
behind [] us h e = h e
behind (d ∷ ds) us h e = absurd (cc)

no_int : (i : Int) (rest : List ℕ) → [] ≡ print_int i rest → ⊥
no_int zero_int rest e = absurd (cc)
no_int (nonzero_int d ds) rest e = absurd (cc)

no_number : (n : Number) (rest : List ℕ) → [] ≡ print_number n rest → ⊥
no_number (unsigned i f e) rest h = no_int i _ h
no_number (negative i f e) rest h = absurd (cc)

no_value : (v : Json) (rest : List ℕ) → [] ≡ print v rest → ⊥
unfolding print
no_value null rest e = absurd (cc)
no_value (truth true) rest e = absurd (cc)
no_value (truth false) rest e = absurd (cc)
no_value (number n) rest e = no_number n rest e
no_value (string raw) rest e = absurd (cc)
no_value (empty_array b) rest e = absurd (cc)
no_value (array x xs) rest e = absurd (cc)
no_value (empty_object b) rest e = absurd (cc)
no_value (object m ms) rest e = absurd (cc)

no_elements_end : (es : Elements) (rest : List ℕ) → [] ≡ print_elements es rest → ⊥
unfolding print
no_elements_end no_elements rest e = absurd (cc)
no_elements_end (more_elements x xs) rest e = absurd (cc)

no_members_end : (ms : Members) (rest : List ℕ) → [] ≡ print_members ms rest → ⊥
unfolding print
no_members_end no_members rest e = absurd (cc)
no_members_end (more_members x xs) rest e = absurd (cc)

no_byte : (c : ℕ) (rest : List ℕ) → [] ≡ c ∷ rest → ⊥
no_byte c rest e = absurd (cc)

no_word : (w : Letters) (rest : List ℕ) → [] ≡ letters w ++ rest → ⊥
no_word Ull rest e = absurd (cc)
no_word Ll rest e = absurd (cc)
no_word L rest e = absurd (cc)
no_word Rue rest e = absurd (cc)
no_word Ue rest e = absurd (cc)
no_word E rest e = absurd (cc)
no_word Alse rest e = absurd (cc)
no_word Lse rest e = absurd (cc)
no_word Se rest e = absurd (cc)

-- ---- ends

exp_end : (e : Exp) (rest : List ℕ) → [] ≡ print_exp e rest → [] ≡ rest
exp_end no_exp rest h = h
exp_end (unsigned_exp x d ds) rest h = absurd (cc)
exp_end (signed_exp x s d ds) rest h = absurd (cc)

frac_end : (f : Frac) (middle : List ℕ) → [] ≡ print_frac f middle → [] ≡ middle
frac_end no_frac middle h = h
frac_end (frac d ds) middle h = absurd (cc)

digits_end : (ds middle : List ℕ) → [] ≡ ds ++ middle → [] ≡ middle
digits_end [] middle h = h
digits_end (d ∷ ds) middle h = absurd (cc)

exp_ends : {rest ts : List ℕ} → [] ≡ ts → ExpThen rest ts → [] ≡ rest
exp_ends {rest} h x = exp_end x.exp rest (h ∙ x.spelled)

frac_ends : {rest ts : List ℕ} → [] ≡ ts → FracThen rest ts → [] ≡ rest
frac_ends h x = exp_ends (frac_end x.part x.middle (h ∙ x.spelled)) x.behind

after_end : (limit : ℕ) (nest : List Bool) → After limit nest [] → nest ≡ []
after_end limit [] x = refl
after_end limit (true ∷ nest) x = absurd (behind x.blanks _ (no_elements_end x.elements x.rest) x.spelled)
after_end limit (false ∷ nest) x = absurd (behind x.blanks _ (no_members_end x.members x.rest) x.spelled)

outside : (m : Mode) (nest : List Bool) → nest ≡ [] → may_end_value m ≡ true → may_end m nest ≡ true
outside m [] h e = e
outside m (b ∷ nest) h e = absurd (cc)

number_end : (limit : ℕ) (s : Digits) (nest : List Bool) (rest : List ℕ) → may_end_number s ≡ true → [] ≡ rest → After limit nest rest → may_end (InNumber s) nest ≡ true
number_end limit s nest rest t h x = outside (InNumber s) nest (after_end limit nest (subst (After limit nest) (sym h) x)) t

number_ends : (limit : ℕ) (s : Digits) (nest : List Bool) (rest : List ℕ) → NumberTail s rest [] → After limit nest rest → may_end (InNumber s) nest ≡ true
number_ends limit AfterMinus nest rest t x = absurd (no_int t.int _ t.spelled)
number_ends limit AfterZero nest rest t x = number_end limit AfterZero nest rest refl (frac_ends refl t) x
number_ends limit InInt nest rest t x = number_end limit InInt nest rest refl (frac_ends (digits_end t.digits t.middle t.spelled) t.behind) x
number_ends limit AfterPoint nest rest t x = absurd (no_byte _ _ t.spelled)
number_ends limit InFrac nest rest t x = number_end limit InFrac nest rest refl (exp_ends (digits_end t.digits t.middle t.spelled) t.behind) x
number_ends limit AfterE nest rest (inl t) x = absurd (no_byte _ _ t.spelled)
number_ends limit AfterE nest rest (inr t) x = absurd (no_byte _ _ t.spelled)
number_ends limit AfterSign nest rest t x = absurd (no_byte _ _ t.spelled)
number_ends limit InExp nest rest t x = number_end limit InExp nest rest refl (digits_end t.digits t.middle t.spelled ∙ t.behind) x

pub end_back : (limit : ℕ) (m : Mode) (nest : List Bool) → Follows limit m nest [] → may_end m nest ≡ true
end_back limit ValueDue nest x = absurd (behind x.blanks _ (no_value x.value x.rest) x.spelled)
end_back limit ElementDue nest (inl x) = absurd (behind x.blanks _ (no_byte 93 x.rest) x.spelled)
end_back limit ElementDue nest (inr x) = absurd (behind x.blanks _ (no_value x.value x.rest) x.spelled)
end_back limit NameDue nest x = absurd (behind x.blanks _ (no_byte 34 _) x.spelled)
end_back limit FirstNameDue nest (inl x) = absurd (behind x.blanks _ (no_byte 125 x.rest) x.spelled)
end_back limit FirstNameDue nest (inr x) = absurd (behind x.blanks _ (no_byte 34 _) x.spelled)
end_back limit ColonDue nest x = absurd (behind x.blanks _ (no_byte 58 x.rest) x.spelled)
end_back limit Ended nest x = outside Ended nest (after_end limit nest x) refl
end_back limit (InWord w) nest x = absurd (no_word w x.rest x.spelled)
end_back limit (InNumber s) nest x = number_ends limit s nest x.rest x.valid x.behind
end_back limit (InText p) nest x = absurd (behind x.raw _ (no_byte 34 x.rest) x.spelled)
end_back limit (InName p) nest x = absurd (behind x.raw _ (no_byte 34 x.rest) x.spelled)

number_forth : (limit : ℕ) (s : Digits) → may_end_number s ≡ true → NumberThen s (After limit []) []
number_forth limit AfterZero h = record { rest = []; valid = frac_none (exp_none []); behind = tt }
number_forth limit InInt h = record { rest = []; valid = digits_none (frac_none (exp_none [])); behind = tt }
number_forth limit InFrac h = record { rest = []; valid = digits_none (exp_none []); behind = tt }
number_forth limit InExp h = record { rest = []; valid = digits_none refl; behind = tt }
number_forth limit AfterMinus h = absurd (cc)
number_forth limit AfterPoint h = absurd (cc)
number_forth limit AfterE h = absurd (cc)
number_forth limit AfterSign h = absurd (cc)

pub end_forth : (limit : ℕ) (m : Mode) (nest : List Bool) → may_end m nest ≡ true → Follows limit m nest []
end_forth limit Ended [] h = tt
end_forth limit (InNumber s) [] h = number_forth limit s h
end_forth limit ValueDue [] h = absurd (cc)
end_forth limit ElementDue [] h = absurd (cc)
end_forth limit NameDue [] h = absurd (cc)
end_forth limit FirstNameDue [] h = absurd (cc)
end_forth limit ColonDue [] h = absurd (cc)
end_forth limit (InWord w) [] h = absurd (cc)
end_forth limit (InText p) [] h = absurd (cc)
end_forth limit (InName p) [] h = absurd (cc)
end_forth limit m (b ∷ nest) h = absurd (cc)

-- ---- a way to an end

pub record Way (P : List ℕ → Type 0) : Type 0 where
  pub bytes : List ℕ
  pub leads : P bytes

after_way : (limit : ℕ) (nest : List Bool) → Way (After limit nest)
unfolding print IsValue
after_way limit [] = record { bytes = []; leads = tt }
after_way limit (true ∷ nest) =
    let w = after_way limit nest in
    record { bytes = 93 ∷ w.bytes; leads = record { blanks = []; elements = no_elements; rest = w.bytes; blank = tt; valid = tt; spelled = refl; behind = w.leads } }
after_way limit (false ∷ nest) =
    let w = after_way limit nest in
    record { bytes = 125 ∷ w.bytes; leads = record { blanks = []; members = no_members; rest = w.bytes; blank = tt; valid = tt; spelled = refl; behind = w.leads } }

value_way : (limit : ℕ) (nest : List Bool) → Way (ValueNext limit nest)
unfolding print IsValue
value_way limit nest =
    let w = after_way limit nest in
    record { bytes = 110 ∷ 117 ∷ 108 ∷ 108 ∷ w.bytes; leads = record { blanks = []; value = null; rest = w.bytes; blank = tt; valid = tt; spelled = refl; behind = w.leads } }

colon_way : (limit : ℕ) (nest : List Bool) → Way (ColonNext limit nest)
colon_way limit nest =
    let w = value_way limit nest in
    record { bytes = 58 ∷ w.bytes; leads = record { blanks = []; rest = w.bytes; blank = tt; spelled = refl; behind = w.leads } }

name_way : (limit : ℕ) (nest : List Bool) → Way (NameNext limit nest)
name_way limit nest =
    let w = colon_way limit nest in
    record { bytes = 34 ∷ 34 ∷ w.bytes; leads = record { blanks = []; raw = []; rest = w.bytes; blank = tt; valid = nothing; spelled = refl; behind = w.leads } }

string_way : (P : List ℕ → Type 0) (p : Part) (raw : List ℕ) → Tail p raw → Way P → Way (StringThen p P)
string_way P p raw v w = record { bytes = raw ++ 34 ∷ w.bytes; leads = record { raw = raw; rest = w.bytes; valid = v; spelled = refl; behind = w.leads } }

part_way : (P : List ℕ → Type 0) (p : Part) → Way P → Way (StringThen p P)
part_way P Inside w = string_way P Inside [] nothing w
part_way P Escape w = string_way P Escape (110 ∷ []) (inr (refl, nothing)) w
part_way P CodeDue w = string_way P CodeDue (48 ∷ 48 ∷ 48 ∷ 48 ∷ []) (inr (refl, refl, (refl, (refl, (refl, nothing))))) w
part_way P AfterD w = string_way P AfterD (48 ∷ 48 ∷ 48 ∷ []) (inl (refl, (refl, (refl, nothing)))) w
part_way P Three w = string_way P Three (48 ∷ 48 ∷ 48 ∷ []) (refl, (refl, (refl, nothing))) w
part_way P Two w = string_way P Two (48 ∷ 48 ∷ []) (refl, (refl, nothing)) w
part_way P One w = string_way P One (48 ∷ []) (refl, nothing) w
part_way P HighTwo w = string_way P HighTwo (48 ∷ 48 ∷ 92 ∷ 117 ∷ 100 ∷ 99 ∷ 48 ∷ 48 ∷ []) (refl, (refl, (refl, (refl, (refl, (refl, (refl, (refl, nothing)))))))) w
part_way P HighOne w = string_way P HighOne (48 ∷ 92 ∷ 117 ∷ 100 ∷ 99 ∷ 48 ∷ 48 ∷ []) (refl, (refl, (refl, (refl, (refl, (refl, (refl, nothing))))))) w
part_way P LowEscape w = string_way P LowEscape (92 ∷ 117 ∷ 100 ∷ 99 ∷ 48 ∷ 48 ∷ []) (refl, (refl, (refl, (refl, (refl, (refl, nothing)))))) w
part_way P LowMark w = string_way P LowMark (117 ∷ 100 ∷ 99 ∷ 48 ∷ 48 ∷ []) (refl, (refl, (refl, (refl, (refl, nothing))))) w
part_way P LowD w = string_way P LowD (100 ∷ 99 ∷ 48 ∷ 48 ∷ []) (refl, (refl, (refl, (refl, nothing)))) w
part_way P LowDigit w = string_way P LowDigit (99 ∷ 48 ∷ 48 ∷ []) (refl, (refl, (refl, nothing))) w

number_way : (P : List ℕ → Type 0) (s : Digits) → Way P → Way (NumberThen s P)
number_way P AfterMinus w = record { bytes = 48 ∷ w.bytes; leads = record { rest = w.bytes; valid = int_zero refl (frac_none (exp_none w.bytes)); behind = w.leads } }
number_way P AfterZero w = record { bytes = w.bytes; leads = record { rest = w.bytes; valid = frac_none (exp_none w.bytes); behind = w.leads } }
number_way P InInt w = record { bytes = w.bytes; leads = record { rest = w.bytes; valid = digits_none (frac_none (exp_none w.bytes)); behind = w.leads } }
number_way P AfterPoint w = record { bytes = 48 ∷ w.bytes; leads = record { rest = w.bytes; valid = digit_first refl (digits_none (exp_none w.bytes)); behind = w.leads } }
number_way P InFrac w = record { bytes = w.bytes; leads = record { rest = w.bytes; valid = digits_none (exp_none w.bytes); behind = w.leads } }
number_way P AfterE w = record { bytes = 48 ∷ w.bytes; leads = record { rest = w.bytes; valid = inr (digit_first refl (digits_none refl)); behind = w.leads } }
number_way P AfterSign w = record { bytes = 48 ∷ w.bytes; leads = record { rest = w.bytes; valid = digit_first refl (digits_none refl); behind = w.leads } }
number_way P InExp w = record { bytes = w.bytes; leads = record { rest = w.bytes; valid = digits_none refl; behind = w.leads } }

-- each state leads to some end
pub way : (limit : ℕ) (m : Mode) (nest : List Bool) → Way (Follows limit m nest)
way limit ValueDue nest = value_way limit nest
way limit ElementDue nest = let w = value_way limit nest in record { bytes = w.bytes; leads = inr w.leads }
way limit NameDue nest = name_way limit nest
way limit FirstNameDue nest = let w = name_way limit nest in record { bytes = w.bytes; leads = inr w.leads }
way limit ColonDue nest = colon_way limit nest
way limit Ended nest = after_way limit nest
way limit (InWord w) nest = let a = after_way limit nest in record { bytes = letters w ++ a.bytes; leads = record { rest = a.bytes; spelled = refl; behind = a.leads } }
way limit (InNumber s) nest = number_way (After limit nest) s (after_way limit nest)
way limit (InText p) nest = part_way (After limit nest) p (after_way limit nest)
way limit (InName p) nest = part_way (ColonNext limit nest) p (colon_way limit nest)
