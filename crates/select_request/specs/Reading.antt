-- What reading a body gives: the request that it spells, or its first fault.
use Rattle.std.specs.Prelude.{◌≡◌, ℕ, ◌<◌, ◌≤◌, List, length, Some, None, Result, Ok, Err, ◌⊎◌}
use Rattle.request_elements.specs.Body.{HasElements, IsMalformed}
use Rattle.select_request.specs.Checks.{first_fault}
use Rattle.select_request.specs.Request.{request_from}
use Rattle.select_request.specs.declared.fault.ReadError.{ReadError}
use Rattle.select_request.specs.declared.fault.ReadError.TheVariants.{Refused, OutOfMemory}
use Rattle.select_request.specs.declared.fault.RequestFault.{RequestFault}
use Rattle.select_request.specs.declared.fault.RequestFaultCode.TheVariants.{MalformedXML}
use Rattle.request_elements.specs.declared.found.Found.{Found}
use Rattle.select_request.specs.declared.request.SelectRequest.{SelectRequest}

-- the longest body that is read
abbrev pub longest_body : ℕ
longest_body = 2097152

-- the body spells the request: its elements pass all checks, and have the request's values
pub record SpellsRequest (body : List ℕ) (request : SelectRequest) : Type 0 where
  pub short : length body ≤ longest_body
  pub found : List Found
  pub elements : HasElements body found
  pub passes : first_fault found ≡ None
  pub values : request ≡ request_from found

-- the body is too long
pub record IsTooLong (body : List ℕ) (fault : RequestFault) : Type 0 where
  pub long : longest_body < length body
  pub code : fault.code ≡ MalformedXML
  pub place : fault.at ≡ longest_body

-- it is none by its grammar
pub record IsNoBody (body : List ℕ) (fault : RequestFault) : Type 0 where
  pub short : length body ≤ longest_body
  pub code : fault.code ≡ MalformedXML
  pub malformed : IsMalformed body fault.at

-- this is the fault of the first check that its elements don't meet
pub record FailsCheck (body : List ℕ) (fault : RequestFault) : Type 0 where
  pub short : length body ≤ longest_body
  pub found : List Found
  pub elements : HasElements body found
  pub fails : first_fault found ≡ Some fault

abbrev pub HasFault : List ℕ → RequestFault → Type 0
HasFault body fault = IsTooLong body fault ⊎ (IsNoBody body fault ⊎ FailsCheck body fault)

-- a reading of the body: the request that it spells, or its fault
abbrev pub HasReading : List ℕ → Result SelectRequest RequestFault → Type 0
HasReading body (Ok request) = SpellsRequest body request
HasReading body (Err fault) = HasFault body fault

pub record SomeReading (body : List ℕ) : Type 0 where
  pub reading : Result SelectRequest RequestFault
  pub holds : HasReading body reading

-- what reading the body may give
abbrev pub Reads : List ℕ → Result SelectRequest ReadError → Type 0
Reads body (Ok request) = SpellsRequest body request
Reads body (Err (Refused fault)) = HasFault body fault
Reads body (Err OutOfMemory) = Unit {0}

-- the result is the request, but for want of memory
abbrev pub Gives : SelectRequest → Result SelectRequest ReadError → Type 0
Gives wanted (Ok request) = request ≡ wanted
Gives wanted (Err (Refused fault)) = ⊥
Gives wanted (Err OutOfMemory) = Unit {0}

-- the result is the fault, but for want of memory
abbrev pub Refuses : RequestFault → Result SelectRequest ReadError → Type 0
Refuses wanted (Ok request) = ⊥
Refuses wanted (Err (Refused fault)) = fault ≡ wanted
Refuses wanted (Err OutOfMemory) = Unit {0}
