use Rattle.native_steps.proofs.effects.effects.Goals as goal

pub returns : goal.returns
returns c = record { agree = c.user_flags_agree.ensures; stay = c.system_flags_stay.ensures.user; same = c.same_over_ranges.ensures }
