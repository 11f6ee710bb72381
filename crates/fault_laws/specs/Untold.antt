-- Where disks don't tell what they hold: what may be answered then, and what may not.
use Rattle.std.specs.Prelude.{Bool, []}
use Rattle.transcripts.specs.Caused.{Caused}
use Rattle.m3_model.specs.declared.answer.Answer.{Answer}
use Rattle.model_laws.specs.Building.{life_of}
use Rattle.model_laws.specs.Uncaused.{write_answered}

-- the answer to the write has its cause where disks tell, or where they don't, without any fault
abbrev pub MayAnswer : Bool → Answer → Type 0
MayAnswer tells b = Caused tells (life_of (write_answered b)) []
