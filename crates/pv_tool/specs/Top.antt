-- What `top` promises, a definition for each of its clauses.
use Rattle.std.specs.Prelude.{◌≡◌, ◌≢◌, ℕ, false, List, None}
use Rattle.pv_build.specs.declared.status.Status.{Status}
use Rattle.pv_build.specs.declared.status.Status.TheVariants as status
use Rattle.pv_words.specs.Words.{Command, RunWedge, Work, Prove, Replay, form_of, Asks}
use Rattle.pv_tasks.specs.Outside.{Outside, Untouched}
use Rattle.pv_tasks.specs.Outcome.{HasEnded}
use Rattle.pv_tasks.specs.Tasks.{Means, Keeps, FaultCounts, NoFault, ComesToOne}
use Rattle.pv_tool.specs.Asked.{task_of, is_on_host, reads_files}
use Rattle.pv_tool.specs.Headline.{HasHeadline}
use Rattle.pv_tool.specs.Comparison.{HasComparison}
use Rattle.pv_tool.specs.Certified.{HasProof, HasVerdict}

-- ---- of all commands

-- what the status says of the files and of what was printed
abbrev pub Meaning : List (List ℕ) → Outside → Status → Type 0
Meaning words o st = (command : Command) → Asks words command → Means (task_of command) o st

-- where no load, store or put failed and memory was found, the work comes to an outcome that it may have over the files
abbrev pub Completes : List (List ℕ) → Outside → Status → Type 0
Completes words o st =
    (command : Command) → Asks words command → NoFault (task_of command) o → st ≢ status.Memory
    → ComesToOne ((task_of command).gives o.before.files) o st

-- what is left where the command is done
abbrev pub LeavesFiles : List (List ℕ) → Outside → Status → Type 0
LeavesFiles words o st =
    (command : Command) → Asks words command → st ≡ status.Done → (task_of command).leaves o.before.files o.after.files

-- no file is changed but the one that the command makes
abbrev pub KeepsOthers : List (List ℕ) → Outside → Type 0
KeepsOthers words o = (command : Command) → Asks words command → Keeps (task_of command).saved o.before.files o.after.files

-- work that reads no file doesn't end as a read fault
abbrev pub LoadsNone : List (List ℕ) → Status → Type 0
LoadsNone words st = reads_files (form_of words) ≡ false → st ≢ status.ReadFault

-- What the words don't ask for is left alone: all, by words of no form; the host, unless they ask for a run on it; and the files,
-- unless they ask for work that reads files. No load fails then.
pub record LeavesAlone {F H : Type 0} (words : List (List ℕ)) (disk : F × F) (machine : H × H) (o : Outside) (st : Status) : Type 0 where
  pub nothing : st ≡ status.Words → Untouched o
  pub host : is_on_host (form_of words) ≡ false → machine.1 ≡ machine.0
  pub files : reads_files (form_of words) ≡ false → disk.1 ≡ disk.0
  pub no_load : LoadsNone words st

-- what becomes of the counts of faults
abbrev pub CountsFaults : List (List ℕ) → Outside → Type 0
CountsFaults words o = (command : Command) → Asks words command → FaultCounts (task_of command) o

-- A load that failed ends the work as a read fault, a store or a put that failed as a write fault. Where the work ends otherwise
-- the count is as it was. A count that stands at its type's end before can't show it.
abbrev pub EndsAtFaults : Outside → Status → Type 0
EndsAtFaults o st =
    (st ≢ status.ReadFault → o.after.loads ≡ o.before.loads)
    × (st ≢ status.WriteFault → o.after.stores ≡ o.before.stores)
    × (st ≢ status.WriteFault → o.after.puts ≡ o.before.puts)

-- ---- of one command

-- `run --wedge` that is done or stopped has the headline
abbrev pub Headlines : List (List ℕ) → Outside → Status → Type 0
Headlines words o st =
    (image script : List ℕ) (frames n : ℕ) → Asks words (RunWedge image script frames n) → HasEnded st
    → HasHeadline image script frames n o st

-- `work` that is done has compared its runs
abbrev pub Compared : List (List ℕ) → Outside → Status → Type 0
Compared words o st = (number : ℕ) → Asks words (Work number) → st ≡ status.Done → HasComparison number o

-- `prove` that is done or stopped has stored a proof of what it printed
abbrev pub Proves : List (List ℕ) → Outside → Status → Type 0
Proves words o st =
    (image script : List ℕ) (frames n : ℕ) (certificate : List ℕ) → Asks words (Prove image script frames n certificate) → HasEnded st
    → HasProof image script frames n certificate o st

-- `replay` that is done has said what is judged
abbrev pub Judges : List (List ℕ) → Outside → Status → Type 0
Judges words o st =
    (image script : List ℕ) (frames n : ℕ) (certificate text : List ℕ)
    → Asks words (Replay image script frames n certificate text) → st ≡ status.Done
    → HasVerdict image script frames n certificate text o
