-- What a machine promises of each of its calls: what it answers, and what it is then.
use Rattle.std.specs.Prelude.{◌≡◌, ◌≢◌, ◌↔◌, ◌-◌, ℕ, ⊤, ◌<◌, ◌≤◌, max, true, List, Option, None, Result, Ok, OnOk, IfOk, IfErr, IsErrOf, length}
use Rattle.std.specs.FinMap as finite
use Rattle.replica_machine.specs.m3_model.Contents.{raised}
use Rattle.replica_machine.specs.m3_model.Reads.{IsOrdered}
use Rattle.replica_machine.specs.m3_model.Rules.{InWindow}
use Rattle.replica_machine.specs.m3_model.declared.limits.TheConstants.{MOST_REPLICA_POINTS}
use Rattle.replica_machine.specs.m3_model.declared.point.Key.{Key}
use Rattle.replica_machine.specs.m3_model.declared.point.Page.{Page}
use Rattle.replica_machine.specs.m3_model.declared.point.Pick.{Pick}
use Rattle.replica_machine.specs.m3_model.declared.point.Point.{Point}
use Rattle.replica_machine.specs.m3_model.declared.point.Series.{Series}
use Rattle.replica_machine.specs.m3_model.declared.reason.Damage.{Damage}
use Rattle.replica_machine.specs.m3_model.declared.reason.Reason.{Reason}
use Rattle.replica_machine.specs.m3_model.declared.reason.Reason.TheVariants as reason
use Rattle.replica_machine.specs.m3_model.declared.replica.Report.{Report}
use Rattle.replica_machine.specs.m3_model.declared.replica.Standing.TheVariants as standing
use Rattle.replica_machine.specs.m3_model.declared.rules.Rules.{Rules}
use Rattle.replica_machine.specs.m3_outside.DiskCalls.{LeavesFiles}
use Rattle.replica_machine.specs.m3_outside.DiskState.{DiskState, Told, Becomes}
use Rattle.replica_machine.specs.block_buffer.Held.{without, has_expired}
use Rattle.replica_machine.specs.first_points.Firsts.{IsPageOf}
use Rattle.replica_machine.specs.commit_log.Contents.{numbers}
use Rattle.replica_machine.specs.shard_files.Gains.{a_point, a_fence, a_tenure}
use Rattle.replica_machine.specs.shard_files.Keeps.{HoldContent, Rearranges}
use Rattle.replica_machine.specs.shard_files.FilesHold.{IsSound}
use Rattle.replica_machine.specs.shard_files.Parts.{IsNewestNumber, KnownVolume, VolumesAre, counted_volumes}
use Rattle.replica_machine.specs.cluster_core.Rows.{open_fence}
use Rattle.replica_machine.specs.cluster_core.declared.event.StepCall.{StepCall}
use Rattle.replica_machine.specs.Boots.{BeganFrom, BeganAgain, MayBeUnowned, IsRefused, IsBootReason}
use Rattle.replica_machine.specs.Damages.{IsDamageOf, IsFileDamage}
use Rattle.replica_machine.specs.Machines.{MachineState, shut_machine, refusal, IsOwn, IsRefusedFor, IsLiveAnswer}
use Rattle.replica_machine.specs.Beside.{risen_in}
use Rattle.replica_machine.specs.Merged.{IsMerged}
use Rattle.replica_machine.specs.Whole.{BringsWhole, of_points}
use Rattle.replica_machine.specs.Reading.{IsRefusedReading}
use Rattle.replica_machine.specs.Steps.{BringsTo, RestartsTo}
use Rattle.replica_machine.specs.Upkeep.{IsFlushed, IsPartFlushed, IsSaved, IsTicked}
use Rattle.replica_machine.specs.declared.machine.Began.{Began}

module _ {D : Type 0} (state : D → DiskState) where
  -- it begins the tenure: from Boot with what its files hold, and where it is open with nothing more
  pub record Begins (tenure : ℕ) (c : StepCall) (said : Result Began Reason) (old new : MachineState D) : Type 0 where
    pub began : old.standing ≡ standing.Boot → IfOk said (BeganFrom state tenure old new)
    pub again : old.standing ≡ standing.Open → IfOk said (BeganAgain tenure old new)
    pub down : IsErrOf said reason.Down ↔ (old.standing ≡ standing.Down)
    pub unowned : IsErrOf said reason.NotOwned → MayBeUnowned state tenure old
    pub unowned_always : old.standing ≢ standing.Down → tenure < old.begun → IsErrOf said reason.NotOwned
    pub sound : (damage : Damage) → IsErrOf said (reason.Corrupt damage) → Told (state old.disk) (λ files. ¬ IsSound files)
    pub damage : (damage : Damage) → IsErrOf said (reason.Corrupt damage) → Told (state old.disk) (IsDamageOf damage)
    pub form : (damage : Damage) → IsErrOf said (reason.Corrupt damage) → IsFileDamage damage
    pub reasons : IfErr said IsBootReason
    pub err : IfErr said (IsRefused old new)
    pub disk : BringsTo (a_tenure tenure) said (state old.disk) (state new.disk)

  -- it takes the point, or refuses it and keeps all that it had, unless a fault closed it
  pub record Puts (rules : Rules) (point : Point) (c : StepCall) (said : Result ⊤ Reason) (old new : MachineState D) : Type 0 where
    pub ok : OnOk said (new ≡ record old { disk = new.disk; buffered = raised old.buffered point; content = raised old.content point })
    pub window : OnOk said (InWindow rules point)
    pub err : IfErr said (λ why. why ≢ reason.Disk → new ≡ record old { disk = new.disk })
    pub plain : IfErr said (λ why. why ≢ reason.Disk → why ≢ reason.Memory → new ≡ old)
    pub unchanged : (state old.disk).tells ≡ true → IsErrOf said reason.Memory → Becomes (λ files. files) (state old.disk) (state new.disk)
    pub fault : IsErrOf said reason.Disk → new ≡ shut_machine standing.Down old new.disk
    pub refused : IsRefusedFor (refusal old c) said
    pub disk : BringsTo (a_point point) said (state old.disk) (state new.disk)

  -- It answers with its live points where its disk tells what it holds, and keeps all that it had. A fault or damage of its files closes it.
  pub record Reads (rules : Rules) (pick : Pick) (from to : ℕ) (c : StepCall) (said : Result (List Series) Reason) (old new : MachineState D) : Type 0 where
    pub ok : (state old.disk).tells ≡ true → IfOk said (IsLiveAnswer old.content rules pick from to)
    pub ordered : IfOk said IsOrdered
    pub stays : OnOk said (new ≡ record old { disk = new.disk })
    pub err : IfErr said (IsRefused old new)
    pub plain : refusal old c ≢ None → new ≡ old
    pub refused : IsRefusedReading state (refusal old c) old said
    pub form : (damage : Damage) → IsErrOf said (reason.Corrupt damage) → IsFileDamage damage
    pub disk : LeavesFiles (IsErrOf said reason.Disk) (state old.disk) (state new.disk)

  -- it gives the page of the first points above the key, and stays, unless a fault or damage closed it
  pub record Pages (after : Option Key) (c : StepCall) (said : Result Page Reason) (old new : MachineState D) : Type 0 where
    pub ok : (state old.disk).tells ≡ true → IfOk said (IsPageOf old.content after)
    pub stays : OnOk said (new ≡ record old { disk = new.disk })
    pub err : IfErr said (IsRefused old new)
    pub plain : refusal old c ≢ None → new ≡ old
    pub refused : IsRefusedReading state (refusal old c) old said
    pub form : (damage : Damage) → IsErrOf said (reason.Corrupt damage) → IsFileDamage damage
    pub disk : LeavesFiles (IsErrOf said reason.Disk) (state old.disk) (state new.disk)

  -- It joins the points of the page, and answers how many were new to it or raised what it had. A fault or damage of its files closes it.
  pub record Merges (page : Page) (c : StepCall) (said : Result ℕ Reason) (old new : MachineState D) : Type 0 where
    pub ok : IfOk said (IsMerged state page.points old new)
    pub err : IfErr said (IsRefused old new)
    pub plain : refusal old c ≢ None → new ≡ old
    pub refused : IsRefusedReading state (refusal old c) old said
    pub form : (damage : Damage) → IsErrOf said (reason.Corrupt damage) → IsFileDamage damage
    pub disk : BringsWhole (of_points (risen_in old.content page.points)) (IsErrOf said reason.Disk) said (state old.disk) (state new.disk)

  -- it raises its fence, or keeps all that it had, unless a fault closed it
  pub record Fences (version : ℕ) (c : StepCall) (said : Result ⊤ Reason) (old new : MachineState D) : Type 0 where
    pub ok : OnOk said (new ≡ record old { disk = new.disk; fence = max old.fence version })
    pub err : IfErr said (λ why. why ≢ reason.Disk → new ≡ record old { disk = new.disk })
    pub plain : IfErr said (λ why. why ≢ reason.Disk → why ≢ reason.Memory → new ≡ old)
    pub unchanged : (state old.disk).tells ≡ true → IsErrOf said reason.Memory → Becomes (λ files. files) (state old.disk) (state new.disk)
    pub fault : IsErrOf said reason.Disk → new ≡ shut_machine standing.Down old new.disk
    pub refused : IsRefusedFor (refusal old c) said
    pub disk : BringsTo (a_fence version) said (state old.disk) (state new.disk)

  -- It writes a volume for each block that may be flushed and has points in memory, and keeps its content. A fault or damage of its files closes it.
  pub record Flushes (rules : Rules) (c : StepCall) (said : Result ℕ Reason) (old new : MachineState D) : Type 0 where
    pub ok : IfOk said (IsFlushed state rules old new)
    pub memory : IsErrOf said reason.Memory → IsPartFlushed state old new
    pub err : IfErr said (λ why. why ≢ reason.Memory → IsRefused old new why)
    pub plain : refusal old c ≢ None → new ≡ old
    pub refused : IsRefusedReading state (refusal old c) old said
    pub form : (damage : Damage) → IsErrOf said (reason.Corrupt damage) → IsFileDamage damage
    pub disk : Rearranges old.content (IsErrOf said reason.Disk) (state old.disk) (state new.disk)

  -- It takes away what has expired, and answers how many keys its content lost. A fault or damage of its files closes it.
  pub record Ticks (rules : Rules) (c : StepCall) (said : Result ℕ Reason) (old new : MachineState D) : Type 0 where
    pub ok : IfOk said (IsTicked state rules old new)
    pub lost : (state old.disk).tells ≡ true → IfOk said (λ n. n ≡ finite.len old.content - finite.len new.content)
    pub there : OnOk said (Told (state old.disk) (HoldContent new.content))
    pub err : IfErr said (IsRefused old new)
    pub unchanged : (state old.disk).tells ≡ true → IsErrOf said reason.Memory → Becomes (λ files. files) (state old.disk) (state new.disk)
    pub plain : refusal old c ≢ None → new ≡ old
    pub refused : IsRefusedReading state (refusal old c) old said
    pub form : (damage : Damage) → IsErrOf said (reason.Corrupt damage) → IsFileDamage damage
    pub disk : Rearranges (without old.content (has_expired rules)) (IsErrOf said reason.Disk) (state old.disk) (state new.disk)

  -- It saves what is in memory as a snapshot, answers its number, and keeps all that it had. A fault closes it.
  pub record Saves (c : StepCall) (said : Result ℕ Reason) (old new : MachineState D) : Type 0 where
    pub ok : IfOk said (IsSaved state old new)
    pub volumes : (state old.disk).tells ≡ true → ¬ (IsErrOf said reason.Disk) → (known : List KnownVolume) → VolumesAre known (state old.disk).files → VolumesAre known (state new.disk).files
    pub err : IfErr said (IsRefused old new)
    pub plain : refusal old c ≢ None → new ≡ old
    pub refused : IsRefusedFor (refusal old c) said
    pub disk : Rearranges old.content (IsErrOf said reason.Disk) (state old.disk) (state new.disk)

  -- it has no tenure, and else is as it was
  pub record Ends (c : StepCall) (said : Result ⊤ Reason) (old new : MachineState D) : Type 0 where
    pub ok : said ≡ Ok tt
    pub ended : new ≡ record old { tenure = None }

  -- it is closed, over the same disk
  pub record Stops (c : StepCall) (said : Result ⊤ Reason) (old new : MachineState D) : Type 0 where
    pub ok : said ≡ Ok tt
    pub closed : new ≡ shut_machine standing.Down old old.disk

  -- it stands at Boot, over what its disk kept
  pub record Restarts (c : StepCall) (said : Result ⊤ Reason) (old new : MachineState D) : Type 0 where
    pub ok : OnOk said (new ≡ shut_machine standing.Boot old new.disk)
    pub memory : IsErrOf said reason.Memory → new ≡ record old { disk = new.disk }
    pub fault : IsErrOf said reason.Disk → new ≡ shut_machine standing.Down old new.disk
    pub err : IfErr said IsOwn
    pub disk : RestartsTo said (state old.disk) (state new.disk)

  -- it says how it stands, and stays as it is
  pub record Reports (c : StepCall) (said : Result Report Reason) (old new : MachineState D) : Type 0 where
    pub ok : IfOk said (λ report. (report.standing ≡ old.standing) × (report.fence ≡ open_fence old.standing old.fence) × (report.buffered ≡ finite.len old.buffered) × (report.buffered ≤ MOST_REPLICA_POINTS))
    pub volumes : old.standing ≡ standing.Open → IfOk said (λ report. Told (state old.disk) (λ files. report.volumes ≡ length (counted_volumes files)))
    pub segments : old.standing ≡ standing.Open → IfOk said (λ report. Told (state old.disk) (λ files. report.segments ≡ length (numbers files)))
    pub snapshot : old.standing ≡ standing.Open → IfOk said (λ report. Told (state old.disk) (IsNewestNumber report.snapshot))
    pub not_open : old.standing ≢ standing.Open → IfOk said (λ report. (report.volumes ≡ 0) × (report.segments ≡ 0) × (report.snapshot ≡ 0))
    pub never_refused : IfErr said (λ why. ⊥)
    pub stays : new ≡ old
