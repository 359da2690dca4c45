-- What a command asks for, and what the program's answer means of it, over what its files hold and what its output took.
use Rattle.std.specs.Prelude.{◌≡◌, ◌⊎◌, ◌≤◌, ℕ, Bool, true, false, List, ◌++◌, Option, Some, None}
use Rattle.pv_io.specs.Causes.{Rose}
use Rattle.pv_io.specs.Files.{FileMap, Stores, ChangesAt}
use Rattle.pv_io.specs.Sink.{Appends, AppendsFront}
use Rattle.pv_build.specs.declared.status.Status.{Status}
use Rattle.pv_build.specs.declared.status.Status.TheVariants as status
use Rattle.pv_tasks.specs.Outside.{Outside}
use Rattle.pv_tasks.specs.Outcome.{Outcome, HostDid}

-- what a command asks for
pub record Task : Type 1 where
  -- what outcomes its work may have over these files
  pub gives : Option FileMap → Outcome → Type 0
  -- each file that it reaches is held
  pub finds : Option FileMap → Type 0
  -- the name that it stores at
  pub saved : Option (List ℕ)
  -- where it is done, of what the files hold before and after it: a file is read back as what was made
  pub leaves : Option FileMap → Option FileMap → Type 0
  -- it prints a run before it stores
  pub runs_first : Bool
  -- the text with which it begins before it stores a file, or before its work has ended
  pub begins : Option FileMap → List ℕ → Type 0
  -- what it may have done where no memory was found, if not nothing
  pub half_done : Outside → Type 0
  -- it asks for a run on the host
  pub on_host : Bool
  -- it reads files
  pub reads : Bool

-- one that reads files, stores none, and does all that it does or nothing, without a host
abbrev pub plain : (Option FileMap → Outcome → Type 0) → (Option FileMap → Type 0) → Task
plain gives finds = record {
  gives = gives;
  finds = finds;
  saved = None;
  leaves = λ old new. Unit {0};
  runs_first = false;
  begins = λ files text. ⊥;
  half_done = λ o. ⊥;
  on_host = false;
  reads = true;
}

-- all names hold what they held, but for that one
abbrev pub Keeps : Option (List ℕ) → Option FileMap → Option FileMap → Type 0
Keeps None old new = new ≡ old
Keeps (Some name) old new = ChangesAt old new name

-- the file was stored where there is one, and else the files are as before
abbrev pub IsStored : Option (List ℕ × List ℕ) → Option FileMap → Option FileMap → Type 0
IsStored None old new = new ≡ old
IsStored (Some file) old new = Stores old new file.0 file.1

-- the host has done its part of the work's run, where there is one
abbrev pub HostDoes : Outcome → Outside → Type 0
HostDoes w o = HostDid w.hosted o.before.completed o.after.completed o.after.memory

-- the outcome of the work was stored and printed, with its status, and the host has done its part
abbrev pub ComesTo : Outcome → Outside → Status → Type 0
ComesTo w o status =
    (status ≡ w.status) × IsStored w.stored o.before.files o.after.files
    × Appends o.before.taken o.after.taken (w.first ++ w.text) × HostDoes w o

-- the work had such an outcome
abbrev pub ComesToOne : (Outcome → Type 0) → Outside → Status → Type 0
ComesToOne comes o status = (w : Outcome) × comes w × ComesTo w o status

-- what was taken before a file is stored: the text of a run, or nothing
abbrev pub TakesFirst : Bool → Option (List ℕ) → Option (List ℕ) → List ℕ → Type 0
TakesFirst true old new first = Appends old new first
TakesFirst false old new first = new ≡ old

-- The store failed, and nothing was printed after what is printed first. Or the output failed after that, and has taken a
-- front of the text.
pub data Fails (task : Task) (w : Outcome) (o : Outside) : Type 0 where
  NoStore : (name bytes : List ℕ) → w.stored ≡ Some (name, bytes) → ChangesAt o.before.files o.after.files name
      → Rose o.before.stores o.after.stores → (o.before.sure ≡ true → ⊥)
      → TakesFirst task.runs_first o.before.taken o.after.taken w.first → Fails task w o
  NoPut : (mid : Option (List ℕ)) → IsStored w.stored o.before.files o.after.files → Appends o.before.taken mid w.first
      → AppendsFront mid o.after.taken w.text → Rose o.before.puts o.after.puts → Fails task w o

-- the output failed within a text with which the command begins, and nothing was stored
pub record FailsFirst (task : Task) (o : Outside) : Type 0 where
  pub text : List ℕ
  pub begins : task.begins o.before.files text
  pub same : o.after.files ≡ o.before.files
  pub front : AppendsFront o.before.taken o.after.taken text
  pub rose : Rose o.before.puts o.after.puts

-- what a status says: a read fault only where a load failed, and not over sure files that hold what is reached
abbrev pub Means : Task → Outside → Status → Type 0
Means task o status.ReadFault =
    Rose o.before.loads o.after.loads × (o.after.files ≡ o.before.files) × (o.after.taken ≡ o.before.taken)
    × (o.before.sure ≡ true → task.finds o.before.files → ⊥) × (o.after.completed ≡ o.before.completed)
Means task o status.WriteFault = ((w : Outcome) × task.gives o.before.files w × Fails task w o) ⊎ FailsFirst task o
Means task o status.Memory =
    (o.after.files ≡ o.before.files)
    × (((o.after.taken ≡ o.before.taken) × (o.after.completed ≡ o.before.completed)) ⊎ task.half_done o)
Means task o status.Words = ⊥
-- done, stopped or refused
Means task o other = ComesToOne (task.gives o.before.files) o other

-- What becomes of the counts. No store fails where the command stores nothing. Files that are sure stay so; over them no store
-- fails, and no load where what is reached is held.
pub record FaultCounts (task : Task) (o : Outside) : Type 0 where
  pub same_sure : o.after.sure ≡ o.before.sure
  pub loads : o.before.loads ≤ o.after.loads
  pub stores : o.before.stores ≤ o.after.stores
  pub no_store : task.saved ≡ None → o.after.stores ≡ o.before.stores
  pub sure_loads : o.before.sure ≡ true → task.finds o.before.files → o.after.loads ≡ o.before.loads
  pub sure_stores : o.before.sure ≡ true → o.after.stores ≡ o.before.stores

-- no load of the command failed: the count didn't rise, or the files are sure and hold what is reached
abbrev pub NoLoadFault : Task → Outside → Type 0
NoLoadFault task o = (Rose o.before.loads o.after.loads → ⊥) ⊎ ((o.before.sure ≡ true) × task.finds o.before.files)

-- the store didn't fail, where there is one: the count didn't rise, or the files are sure
abbrev pub NoStoreFault : Option (List ℕ) → Outside → Type 0
NoStoreFault None o = Unit {0}
NoStoreFault (Some name) o = (Rose o.before.stores o.after.stores → ⊥) ⊎ (o.before.sure ≡ true)

-- no load, store or put of the command failed
pub record NoFault (task : Task) (o : Outside) : Type 0 where
  pub loads : NoLoadFault task o
  pub stores : NoStoreFault task.saved o
  pub puts : Rose o.before.puts o.after.puts → ⊥
