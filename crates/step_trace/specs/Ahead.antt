-- What the processor is about to do, as it is kept while the step is done.
use Rattle.std.specs.Prelude.{Some}
use Rattle.ia32_decode.specs.Decoding.{decoded}
use Rattle.step_text.specs.declared.activity.Activity.{Activity}
use Rattle.step_trace.specs.Doing.{carried_out}
use Rattle.step_trace.specs.declared.ahead.Ahead.{Ahead}
use Rattle.step_trace.specs.declared.ahead.Ahead.TheVariants as ahead

abbrev pub told : Ahead → Activity
told (ahead.Does activity) = activity
told (ahead.Reads bytes) = carried_out (Some (decoded bytes))
