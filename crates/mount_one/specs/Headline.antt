-- What each status of a run promises.
use Rattle.std.specs.Prelude.{◌≡◌, ℕ, ◌<◌, ◌≤◌, List, [], ◌∷◌, length, codes, Option, Some, None, Ok, Err, ◌⊎◌}
use Rattle.mp_types.specs.Options.{default_options}
use Rattle.bucket_model.specs.History.{History}
use Rattle.mp_script.specs.declared.cause.What.{What}
use Rattle.mp_script.specs.declared.cause.What.TheVariants.{Bytes, Lines, Reads, Data}
use Rattle.mount_model.specs.declared.request.Line.{Line}
use Rattle.mount_model.specs.Step.{Step}
use Rattle.mount_model.specs.Run.{IsRun}
use Rattle.mount_model.specs.Reads.{ReadsOver}
use Rattle.mount_model.specs.Tied.{IsTiedTo}
use Rattle.mount_model.specs.Written.{WrittenOver}
use Rattle.mp_driver.specs.Drive.{HasFewFaults}
use Rattle.mp_record.specs.RecordText.{record_text}
use Rattle.mp_script.specs.ScriptText.{Refusal, Bad, script_of, max_script_bytes}
use Rattle.mp_script.specs.ScriptText as text
use Rattle.mp_record.specs.Appends.{Appends, AppendsFront}
use Rattle.mount_one.specs.Reading.{IsSpent}
use Rattle.mount_one.specs.declared.status.Status.{Status}
use Rattle.mount_one.specs.declared.status.Status.TheVariants.{Done, BadScript, TooLong, SourceFault, SinkFault, NoMemory}

-- the one word that the program takes
abbrev pub AreWords : List (List ℕ) → Type 0
AreWords words = words ≡ codes "run" ∷ []

-- the script that a source's bytes spell, as far as it tells them
abbrev pub Spells : Option (List ℕ) → List Line → Type 0
Spells None script = Unit {0}
Spells (Some bytes) script = (length bytes ≤ max_script_bytes) × (script_of bytes ≡ Ok script)

-- they spell none, for this reason
abbrev pub SpellsNone : Option (List ℕ) → Refusal → Type 0
SpellsNone None why = Unit {0}
SpellsNone (Some bytes) why = (length bytes ≤ max_script_bytes) × (script_of bytes ≡ Err why)

-- there is too much of this: of bytes, which aren't read to their end, or of lines, reads or data, which are counted when they are
abbrev pub IsTooLong : Option (List ℕ) → What → Type 0
IsTooLong None what = Unit {0}
IsTooLong (Some bytes) Bytes = max_script_bytes < length bytes
IsTooLong (Some bytes) Lines = SpellsNone (Some bytes) (text.TooLong Lines)
IsTooLong (Some bytes) Reads = SpellsNone (Some bytes) (text.TooLong Reads)
IsTooLong (Some bytes) Data = SpellsNone (Some bytes) (text.TooLong Data)

-- The steps are a run of the script that the input spells, with the options that a mount has by default, tied call
-- by call to the store's history from its opening length on. Each read gives bytes of the version that its handle
-- opened. Over an honest store what was written appears whole or not at all, and is there once its close or fsync has
-- succeeded. At most as many calls are told to have failed as the store's count of faults rose by.
pub record Serves (input : Option (List ℕ)) (start : ℕ) (is_alone is_honest : Type 0) (history : Option History) (faults_before faults_after : ℕ) (steps : List Step) : Type 0 where
  pub script : List Line
  pub spelled : Spells input script
  pub run : IsRun default_options script steps
  pub tied : IsTiedTo history default_options script start is_alone steps
  pub reads : ReadsOver history default_options script steps
  pub written : is_honest → WrittenOver history default_options script steps
  pub faults : HasFewFaults faults_before faults_after steps

-- What the sink holds is what it held, and then the text of the record of such a run.
pub record WritesRecord (input : Option (List ℕ)) (start : ℕ) (is_alone is_honest : Type 0) (history : Option History) (faults_before faults_after : ℕ) (held held_after : Option (List ℕ)) : Type 0 where
  pub steps : List Step
  pub served : Serves input start is_alone is_honest history faults_before faults_after steps
  pub written : Appends held (record_text steps) held_after

-- The same, with a front of the text.
pub record WritesFront (input : Option (List ℕ)) (start : ℕ) (is_alone is_honest : Type 0) (history : Option History) (faults_before faults_after : ℕ) (held held_after : Option (List ℕ)) : Type 0 where
  pub steps : List Step
  pub served : Serves input start is_alone is_honest history faults_before faults_after steps
  pub written : AppendsFront held (record_text steps) held_after

-- the statuses with which nothing is written and no bucket call is made
abbrev pub IsRefusal : Status → Type 0
IsRefusal Done = ⊥
IsRefusal SinkFault = ⊥
IsRefusal NoMemory = ⊥
IsRefusal other = Unit {0}

-- the script was served to its end, or there was no memory
abbrev pub IsServed : Status → Type 0
IsServed Done = Unit {0}
IsServed NoMemory = Unit {0}
IsServed other = ⊥

-- why there is no script, by the status
abbrev pub Refuses : Option (List ℕ) → Status → Option (List ℕ) → Type 0 → Type 0
Refuses input (BadScript line cause) left failed = SpellsNone input (Bad line cause) × IsSpent left
Refuses input (TooLong what) left failed = IsTooLong input what
Refuses input SourceFault left failed = failed
Refuses input NoMemory left failed = Unit {0}
Refuses input other left failed = ⊥

-- what stands written when a script has been served, by the status
abbrev pub Ends : Status → Type 0 → Type 0 → Type 0 → Type 0 → Type 0
Ends Done whole front failed nothing = whole
Ends SinkFault whole front failed nothing = failed × front
Ends NoMemory whole front failed nothing = nothing ⊎ front
Ends other whole front failed nothing = ⊥
