-- A body asks one thing.
use Rattle.std.proofs.Common.{◌≡◌, ℕ, true, List, Result, Ok, Err, sym, ap, ap₂, subst, ◌∙◌, ◌⊎◌, inl, inr}
use Rattle.select_request.specs.Reading.{HasReading, Reads}
use Rattle.select_request.specs.declared.request.SelectRequest.{SelectRequest}
use Rattle.select_request.specs.declared.fault.RequestFault.{RequestFault}
use Rattle.select_request.specs.declared.fault.ReadError.TheVariants.{Refused}
use Rattle.sql_grammar.specs.Faults.{Spells, FaultOf, OneParse}
use Rattle.sql_grammar.specs.declared.error.SqlError.{SqlError}
use Rattle.sql_grammar.specs.declared.tree.Query.{Query}
use Rattle.select_job.specs.Jobs.{Job}
use Rattle.select_job.specs.declared.asked.Asked.{Asked}
use Rattle.select_job.specs.declared.asked.Asked.TheVariants as asked
use Rattle.select_job.specs.Codes.{request_code, sql_code}
use Rattle.select_job.specs.Prepared.{Prepares, HasBodyFault, HasQueryFault, IsRefusedQuery, IsUnbuilt, IsAsked, EachAsksOneThing}
use Rattle.select_job.specs.Built.{is_built}
use Rattle.select_reply.specs.declared.code.Code.{Code}

same_refusal : (c d : Code) (at place : ℕ) → c ≡ d → at ≡ place → asked.Refused c at ≡ asked.Refused d place
same_refusal c d at place code here = ap₂ asked.Refused code here

module _ (parse : OneParse) (text : List ℕ) where
  same_query : (q r : Query) → Spells text q → Spells text r → q ≡ r
  same_query q r p s = let both = parse text (Ok q) (Ok r) p s in cc

  same_error : (e f : SqlError) → FaultOf text e → FaultOf text f → e ≡ f
  same_error e f p s = let both = parse text (Err e) (Err f) p s in cc

  not_refused : (q : Query) (e : SqlError) → Spells text q → FaultOf text e → ⊥
  not_refused q e p s = let both = parse text (Ok q) (Err e) p s in cc

module _ (one : (body : List ℕ) (reading other : Result SelectRequest RequestFault) → HasReading body reading → HasReading body other → reading ≡ other)
    (parse : OneParse) (body : List ℕ) where
  same_request : (r s : SelectRequest) → Reads body (Ok r) → Reads body (Ok s) → r ≡ s
  same_request r s p q = let both = one body (Ok r) (Ok s) p q in cc

  same_fault : (f g : RequestFault) → Reads body (Err (Refused f)) → Reads body (Err (Refused g)) → f ≡ g
  same_fault f g p q = let both = one body (Err f) (Err g) p q in cc

  not_both : (r : SelectRequest) (f : RequestFault) → Reads body (Ok r) → Reads body (Err (Refused f)) → ⊥
  not_both r f p q = let both = one body (Ok r) (Err f) p q in cc

  -- of one request
  query_refusals : (r : SelectRequest) (c d : Code) (at place : ℕ) → IsRefusedQuery r c at ⊎ IsUnbuilt r c at → IsRefusedQuery r d place ⊎ IsUnbuilt r d place
      → asked.Refused c at ≡ asked.Refused d place
  query_refusals r c d at place (inl p) (inl q) =
      let same = same_error parse r.expression p.error q.error p.refused q.refused in
      same_refusal c d at place (p.named ∙ ap (λ (e : SqlError). sql_code e.code) same ∙ sym q.named) (p.placed ∙ ap (λ (e : SqlError). e.at) same ∙ sym q.placed)
  query_refusals r c d at place (inl p) (inr q) = absurd (not_refused parse r.expression q.query p.error q.spelled p.refused)
  query_refusals r c d at place (inr p) (inl q) = absurd (not_refused parse r.expression p.query q.error p.spelled q.refused)
  query_refusals r c d at place (inr p) (inr q) = same_refusal c d at place (p.named ∙ sym q.named) (p.placed ∙ sym q.placed)

  refusals : (c d : Code) (at place : ℕ) → HasBodyFault body c at ⊎ HasQueryFault body c at → HasBodyFault body d place ⊎ HasQueryFault body d place
      → asked.Refused c at ≡ asked.Refused d place
  refusals c d at place (inl p) (inl q) =
      let same = same_fault p.fault q.fault p.read q.read in
      same_refusal c d at place (p.named ∙ ap (λ (f : RequestFault). request_code f.code) same ∙ sym q.named)
      (p.placed ∙ ap (λ (f : RequestFault). f.at) same ∙ sym q.placed)
  refusals c d at place (inl p) (inr q) = absurd (not_both q.request p.fault q.read p.read)
  refusals c d at place (inr p) (inl q) = absurd (not_both p.request q.fault p.read q.read)
  refusals c d at place (inr p) (inr q) =
      query_refusals q.request c d at place (subst (λ r. IsRefusedQuery r c at ⊎ IsUnbuilt r c at) (same_request p.request q.request p.read q.read) p.refused) q.refused

  -- a query that is asked isn't refused
  not_refused_too : (r : SelectRequest) (q : Query) (c : Code) (at : ℕ) → Spells r.expression q → is_built r ≡ true → IsRefusedQuery r c at ⊎ IsUnbuilt r c at → ⊥
  not_refused_too r q c at spelled built (inl p) = not_refused parse r.expression q p.error spelled p.refused
  not_refused_too r q c at spelled built (inr p) = let no = p.unbuilt in cc

  asked_refused : (c : Code) (at : ℕ) (job : Job) → HasBodyFault body c at ⊎ HasQueryFault body c at → IsAsked body job → ⊥
  asked_refused c at job (inl p) q = not_both job.request p.fault q.read p.read
  asked_refused c at job (inr p) q =
      not_refused_too job.request job.query c at q.spelled q.built
      (subst (λ r. IsRefusedQuery r c at ⊎ IsUnbuilt r c at) (same_request p.request job.request p.read q.read) p.refused)

  same_job : (j k : Job) → IsAsked body j → IsAsked body k → j ≡ k
  same_job j k p q =
      let request = same_request j.request k.request p.read q.read in
      let query = same_query parse k.request.expression j.query k.query (subst (λ (r : SelectRequest). Spells r.expression j.query) request p.spelled) q.spelled in
      ap₂ (λ r s. record { request = r; query = s }) request query

  one_thing : (a b : Asked) → Prepares body a → Prepares body b → a ≡ b
  one_thing (asked.Refused c at) (asked.Refused d place) p q = refusals c d at place p q
  one_thing (asked.Refused c at) (asked.Asks job) p q = absurd (asked_refused c at job p q)
  one_thing (asked.Asks job) (asked.Refused c at) p q = absurd (asked_refused c at job q p)
  one_thing (asked.Asks j) (asked.Asks k) p q = ap asked.Asks (same_job j k p q)

pub each_asks_one_thing : ((body : List ℕ) (reading other : Result SelectRequest RequestFault) → HasReading body reading → HasReading body other → reading ≡ other)
    → OneParse → EachAsksOneThing
each_asks_one_thing one parse body a b p q = one_thing one parse body a b p q
