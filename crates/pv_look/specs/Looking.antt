-- What is asked for by the words of a look.
use Rattle.pv_tasks.specs.Tasks.{Task}
use Rattle.look_words.specs.Words.{Look, ListImage, Steps, Before, InFile}
use Rattle.pv_look.specs.Listing.{list_task}
use Rattle.pv_look.specs.Stepping.{steps_task}
use Rattle.pv_look.specs.Before.{before_task}
use Rattle.pv_look.specs.Files.{file_task}

abbrev pub task_of : Look → Task
task_of (ListImage name) = list_task name
task_of (Steps run from to only) = steps_task run from to only
task_of (Before run steps of) = before_task run steps of
task_of (InFile name of) = file_task name of
