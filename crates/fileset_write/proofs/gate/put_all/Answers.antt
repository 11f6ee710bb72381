use Rattle.std.proofs.Common.{inl, inr, refl, sym, ◌∙◌}
use Rattle.std.proofs.lemmas.Result.{on_ok_weaker}
use Rattle.fileset_write.proofs.GateLemmas.{all1, none1, read1, absent, all2, none2, read2, shut_told, shut_each, none_all, all3, read3, none3, read_none3, is_all}
use Rattle.fileset_write.proofs.gate.put_all.Goals as goal

pub put_files-requires-clause-absent : goal.put_files-requires-clause-absent
put_files-requires-clause-absent g c = λ t q m. c.requires.absent t q (inr m)

pub returns-in_err-put_files-clause-any_moment : goal.returns-in_err-put_files-clause-any_moment
returns-in_err-put_files-clause-any_moment g c = λ t.
    all1 c.args.files.now c.args.checkpoint c.args.digest.now c.requires.apart.0 (g.D.Disk.state c.args.disk.now) (g.D.Disk.state c.put_files.new.disk) t (c.requires.absent t c.args.checkpoint (inl refl)) (c.requires.none t) (c.put_files.ensures.any_moment t) (c.put_files.ensures.files t)

pub returns-in_err-put_files-clause-memory : goal.returns-in_err-put_files-clause-memory
returns-in_err-put_files-clause-memory g c = λ t m.
    none1 c.args.files.now c.args.checkpoint c.args.digest.now c.requires.apart.0 (g.D.Disk.state c.args.disk.now) (g.D.Disk.state c.put_files.new.disk) t (c.requires.absent t c.args.checkpoint (inl refl)) (c.requires.none t) (c.put_files.ensures.any_moment t) (c.put_files.ensures.files t)

pub returns-in_err-put_files-clause-files : goal.returns-in_err-put_files-clause-files
returns-in_err-put_files-clause-files g c = λ t.
    none_all c.args.files.now c.args.checkpoint c.args.digest.now c.requires.apart.0 _ _ (read1 c.args.files.now c.args.checkpoint c.args.digest.now c.requires.apart.0 (g.D.Disk.state c.args.disk.now) (g.D.Disk.state c.put_files.new.disk) t (c.requires.absent t c.args.checkpoint (inl refl)) (c.requires.none t) (c.put_files.ensures.any_moment t) (c.put_files.ensures.files t))

pub returns-in_err-put_files-clause-shut : goal.returns-in_err-put_files-clause-shut
returns-in_err-put_files-clause-shut g c = λ t m.
    read1 c.args.files.now c.args.checkpoint c.args.digest.now c.requires.apart.0 (g.D.Disk.state c.args.disk.now) (g.D.Disk.state c.put_files.new.disk) t (c.requires.absent t c.args.checkpoint (inl refl)) (c.requires.none t) (c.put_files.ensures.any_moment t) (c.put_files.ensures.files t)

pub put_file-requires-clause-absent : goal.put_file-requires-clause-absent
put_file-requires-clause-absent g c = λ h.
    let t = sym c.put_files.ensures.tells ∙ h in
    absent c.args.files.now c.args.checkpoint c.args.digest.now c.requires.apart.0 (g.D.Disk.state c.args.disk.now) (g.D.Disk.state c.put_files.new.disk) t (c.requires.absent t c.args.checkpoint (inl refl)) (c.requires.none t) (c.put_files.ensures.any_moment t) (c.put_files.ensures.files t)

pub returns-in_err-put_file-clause-any_moment : goal.returns-in_err-put_file-clause-any_moment
returns-in_err-put_file-clause-any_moment g c = λ t.
    let t1 = c.put_files.ensures.tells ∙ t in
    all2 c.args.files.now c.args.checkpoint c.args.digest.now c.requires.apart.0 (g.D.Disk.state c.args.disk.now) (g.D.Disk.state c.put_files.new.disk) t (c.requires.absent t c.args.checkpoint (inl refl)) (c.requires.none t) (c.put_files.ensures.any_moment t) (c.put_files.ensures.files t) (c.in_ok-put_files.ensures.ok t) (g.D.Disk.state c.put_file.new.disk) (c.put_file.ensures.any_moment t1) (c.put_file.ensures.files t1)

pub returns-in_err-put_file-clause-memory : goal.returns-in_err-put_file-clause-memory
returns-in_err-put_file-clause-memory g c = λ t m.
    let t1 = c.put_files.ensures.tells ∙ t in
    none2 c.args.files.now c.args.checkpoint c.args.digest.now c.requires.apart.0 (g.D.Disk.state c.args.disk.now) (g.D.Disk.state c.put_files.new.disk) t (c.requires.absent t c.args.checkpoint (inl refl)) (c.requires.none t) (c.put_files.ensures.any_moment t) (c.put_files.ensures.files t) (c.in_ok-put_files.ensures.ok t) (g.D.Disk.state c.put_file.new.disk) (c.put_file.ensures.any_moment t1) (c.put_file.ensures.files t1)

pub returns-in_err-put_file-clause-files : goal.returns-in_err-put_file-clause-files
returns-in_err-put_file-clause-files g c = λ t.
    let t1 = c.put_files.ensures.tells ∙ t in
    none_all c.args.files.now c.args.checkpoint c.args.digest.now c.requires.apart.0 _ _ (read2 c.args.files.now c.args.checkpoint c.args.digest.now c.requires.apart.0 (g.D.Disk.state c.args.disk.now) (g.D.Disk.state c.put_files.new.disk) t (c.requires.absent t c.args.checkpoint (inl refl)) (c.requires.none t) (c.put_files.ensures.any_moment t) (c.put_files.ensures.files t) (c.in_ok-put_files.ensures.ok t) (g.D.Disk.state c.put_file.new.disk) (c.put_file.ensures.any_moment t1) (c.put_file.ensures.files t1))

pub returns-in_err-put_file-clause-shut : goal.returns-in_err-put_file-clause-shut
returns-in_err-put_file-clause-shut g c = λ t m.
    let t1 = c.put_files.ensures.tells ∙ t in
    read2 c.args.files.now c.args.checkpoint c.args.digest.now c.requires.apart.0 (g.D.Disk.state c.args.disk.now) (g.D.Disk.state c.put_files.new.disk) t (c.requires.absent t c.args.checkpoint (inl refl)) (c.requires.none t) (c.put_files.ensures.any_moment t) (c.put_files.ensures.files t) (c.in_ok-put_files.ensures.ok t) (g.D.Disk.state c.put_file.new.disk) (c.put_file.ensures.any_moment t1) (c.put_file.ensures.files t1)

pub open_gate-requires : goal.open_gate-requires
open_gate-requires g c = record {
  shut = record {
    told = λ h.
        let t1 = sym c.put_file.ensures.tells ∙ h in
        let t = sym c.put_files.ensures.tells ∙ t1 in
        shut_told c.args.files.now c.args.checkpoint c.args.digest.now c.requires.apart.0 (g.D.Disk.state c.args.disk.now) (g.D.Disk.state c.put_files.new.disk) t (c.requires.absent t c.args.checkpoint (inl refl)) (c.requires.none t) (c.put_files.ensures.any_moment t) (c.put_files.ensures.files t) (c.in_ok-put_files.ensures.ok t) (g.D.Disk.state c.put_file.new.disk) (c.put_file.ensures.any_moment t1) (c.put_file.ensures.files t1) (c.in_ok-put_file.ensures.ok t1);
    each = λ h f image.
        let t1 = sym c.put_file.ensures.tells ∙ h in
        let t = sym c.put_files.ensures.tells ∙ t1 in
        shut_each c.args.files.now c.args.checkpoint c.args.digest.now c.requires.apart.0 (g.D.Disk.state c.args.disk.now) (g.D.Disk.state c.put_files.new.disk) t (c.requires.absent t c.args.checkpoint (inl refl)) (c.requires.none t) (c.put_files.ensures.any_moment t) (c.put_files.ensures.files t) (c.in_ok-put_files.ensures.ok t) (g.D.Disk.state c.put_file.new.disk) (c.put_file.ensures.any_moment t1) (c.put_file.ensures.files t1) (c.in_ok-put_file.ensures.ok t1) f image;
  };
}

pub returns-clause-any_moment : goal.returns-clause-any_moment
returns-clause-any_moment g c = λ t.
    let t1 = c.put_files.ensures.tells ∙ t in
    let t2 = c.put_file.ensures.tells ∙ t1 in
    all3 c.args.files.now c.args.checkpoint c.args.digest.now c.requires.apart.0 (g.D.Disk.state c.args.disk.now) (g.D.Disk.state c.put_files.new.disk) t (c.requires.absent t c.args.checkpoint (inl refl)) (c.requires.none t) (c.put_files.ensures.any_moment t) (c.put_files.ensures.files t) (c.in_ok-put_files.ensures.ok t) (g.D.Disk.state c.put_file.new.disk) (c.put_file.ensures.any_moment t1) (c.put_file.ensures.files t1) (c.in_ok-put_file.ensures.ok t1) (g.D.Disk.state c.open_gate.new.disk) (c.open_gate.ensures.any_moment t2) (c.open_gate.ensures.files t2)

pub returns-clause-files : goal.returns-clause-files
returns-clause-files g c = λ t.
    let t1 = c.put_files.ensures.tells ∙ t in
    let t2 = c.put_file.ensures.tells ∙ t1 in
    read3 c.args.files.now c.args.checkpoint c.args.digest.now c.requires.apart.0 (g.D.Disk.state c.args.disk.now) (g.D.Disk.state c.put_files.new.disk) t (c.requires.absent t c.args.checkpoint (inl refl)) (c.requires.none t) (c.put_files.ensures.any_moment t) (c.put_files.ensures.files t) (c.in_ok-put_files.ensures.ok t) (g.D.Disk.state c.put_file.new.disk) (c.put_file.ensures.any_moment t1) (c.put_file.ensures.files t1) (c.in_ok-put_file.ensures.ok t1) (g.D.Disk.state c.open_gate.new.disk) (c.open_gate.ensures.any_moment t2) (c.open_gate.ensures.files t2)

pub returns-clause-ok : goal.returns-clause-ok
returns-clause-ok g c = λ t.
    let t1 = c.put_files.ensures.tells ∙ t in
    let t2 = c.put_file.ensures.tells ∙ t1 in
    on_ok_weaker c.open_gate.result (λ done. is_all c.args.files.now c.args.checkpoint c.args.digest.now c.requires.apart.0 (g.D.Disk.state c.args.disk.now) (g.D.Disk.state c.put_files.new.disk) t (c.requires.absent t c.args.checkpoint (inl refl)) (c.requires.none t) (c.put_files.ensures.any_moment t) (c.put_files.ensures.files t) (c.in_ok-put_files.ensures.ok t) (g.D.Disk.state c.put_file.new.disk) (c.put_file.ensures.any_moment t1) (c.put_file.ensures.files t1) (c.in_ok-put_file.ensures.ok t1) (g.D.Disk.state c.open_gate.new.disk) (c.open_gate.ensures.any_moment t2) (c.open_gate.ensures.files t2) done) (c.open_gate.ensures.ok t2)

pub returns-clause-memory : goal.returns-clause-memory
returns-clause-memory g c = λ t m.
    let t1 = c.put_files.ensures.tells ∙ t in
    let t2 = c.put_file.ensures.tells ∙ t1 in
    none3 c.args.files.now c.args.checkpoint c.args.digest.now c.requires.apart.0 (g.D.Disk.state c.args.disk.now) (g.D.Disk.state c.put_files.new.disk) t (c.requires.absent t c.args.checkpoint (inl refl)) (c.requires.none t) (c.put_files.ensures.any_moment t) (c.put_files.ensures.files t) (c.in_ok-put_files.ensures.ok t) (g.D.Disk.state c.put_file.new.disk) (c.put_file.ensures.any_moment t1) (c.put_file.ensures.files t1) (c.in_ok-put_file.ensures.ok t1) (g.D.Disk.state c.open_gate.new.disk) (c.open_gate.ensures.any_moment t2) (c.open_gate.ensures.files t2) (c.open_gate.ensures.memory t2 m)

pub returns-clause-shut : goal.returns-clause-shut
returns-clause-shut g c = λ t m.
    let t1 = c.put_files.ensures.tells ∙ t in
    let t2 = c.put_file.ensures.tells ∙ t1 in
    read_none3 c.args.files.now c.args.checkpoint c.args.digest.now c.requires.apart.0 (g.D.Disk.state c.args.disk.now) (g.D.Disk.state c.put_files.new.disk) t (c.requires.absent t c.args.checkpoint (inl refl)) (c.requires.none t) (c.put_files.ensures.any_moment t) (c.put_files.ensures.files t) (c.in_ok-put_files.ensures.ok t) (g.D.Disk.state c.put_file.new.disk) (c.put_file.ensures.any_moment t1) (c.put_file.ensures.files t1) (c.in_ok-put_file.ensures.ok t1) (g.D.Disk.state c.open_gate.new.disk) (c.open_gate.ensures.any_moment t2) (c.open_gate.ensures.files t2) (c.open_gate.ensures.memory t2 m)
