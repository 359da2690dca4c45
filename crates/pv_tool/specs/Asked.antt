-- What each command asks for.
use Rattle.std.specs.Prelude.{Bool, false, Option}
use Rattle.std.specs.Option.{option_map_or}
use Rattle.pv_words.specs.Words.{Command, Burn, Link, Check, RunBare, RunWedge, Work, Share, Save, SaveFrom, Continue, Prove, Replay}
use Rattle.pv_words.specs.declared.mode.RunMode.TheVariants as mode
use Rattle.pv_tasks.specs.Tasks.{Task}
use Rattle.pv_tasks.specs.Burning.{burn_task}
use Rattle.pv_tasks.specs.Linking.{link_task}
use Rattle.pv_tasks.specs.Checking.{check_task}
use Rattle.pv_tasks.specs.Running.{run_task}
use Rattle.pv_tasks.specs.Working.{work_task}
use Rattle.pv_share.specs.Sharing.{share_task}
use Rattle.pv_save.specs.Resting.{save_task, save_from_task}
use Rattle.pv_save.specs.Continuing.{continue_task}
use Rattle.pv_prove.specs.Proving.{prove_task}
use Rattle.pv_prove.specs.Replaying.{replay_task}

abbrev pub task_of : Command → Task
task_of (Burn source object) = burn_task source object
task_of (Link image objects) = link_task image objects
task_of (Check image) = check_task image
task_of (RunBare image script frames n) = run_task mode.Bare image script frames n
task_of (RunWedge image script frames n) = run_task mode.Wedge image script frames n
task_of (Work number) = work_task number
task_of (Share schedule frames kernels) = share_task schedule frames kernels
task_of (Save on image script frames n file) = save_task on image script frames n file
task_of (SaveFrom on image script file n new) = save_from_task on image script file n new
task_of (Continue on image script file n) = continue_task on image script file n
task_of (Prove image script frames n certificate) = prove_task image script frames n certificate
task_of (Replay image script frames n certificate text) = replay_task image script frames n certificate text

-- the words ask for a run on the host
abbrev pub is_on_host : Option Command → Bool
is_on_host command = option_map_or (λ c. (task_of c).on_host) command false

-- the words ask for work that reads files
abbrev pub reads_files : Option Command → Bool
reads_files command = option_map_or (λ c. (task_of c).reads) command false
