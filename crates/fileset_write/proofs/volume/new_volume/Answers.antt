use Rattle.std.proofs.Common.{◌≡◌, [], ◌∷◌, length, ap, ◌∙◌}
use Rattle.sha2.specs.Sha256.{sha256}
use Rattle.shard_files.specs.wire_bytes.Volumes.{Info, Summaries, Index, Data, Bloom, Digests, info_of}
use Rattle.shard_files.specs.Parts.{part_of}
use Rattle.volume_bytes.specs.Heads.{head_of}
use Rattle.fileset_write.specs.NewVolumes.{new_file}
use Rattle.fileset_write.proofs.VolumeLemmas.{all_fit, digests_are}
use Rattle.fileset_write.proofs.volume.new_volume.Goals as goal

pub tables_of-requires-clause-fits : goal.tables_of-requires-clause-fits
tables_of-requires-clause-fits c = all_fit (head_of c.args.head.now) c.args.rows.now c.requires

pub returns : goal.returns
returns c =
    let v = head_of c.args.head.now in
    let rows = c.args.rows.now in
    let info = c.in_ok-info.ensures ∙ ap (info_of v (length rows)) c.in_ok-tables.ensures.points in
    let digests = c.in_ok-digests.ensures ∙ digests_are v rows c.as_slice.result.now c.as_slice-2.result.now c.as_slice-3.result.now c.as_slice-4.result.now c.as_slice-5.result.now
    (c.as_slice.ensures ∙ info) (c.as_slice-2.ensures ∙ c.in_ok-tables.ensures.summaries) (c.as_slice-3.ensures ∙ c.in_ok-tables.ensures.index) (c.as_slice-4.ensures ∙ c.in_ok-tables.ensures.body) (c.as_slice-5.ensures ∙ c.in_ok-bloom.ensures) in
    let one : c.new_file.result ≡ new_file v rows Info = c.new_file.ensures ∙ (λ i. record { name = part_of Info v; bytes = info i }) in
    let two : c.new_file-2.result ≡ new_file v rows Summaries = c.new_file-2.ensures ∙ (λ i. record { name = part_of Summaries v; bytes = c.in_ok-tables.ensures.summaries i }) in
    let three : c.new_file-3.result ≡ new_file v rows Index = c.new_file-3.ensures ∙ (λ i. record { name = part_of Index v; bytes = c.in_ok-tables.ensures.index i }) in
    let four : c.new_file-4.result ≡ new_file v rows Data = c.new_file-4.ensures ∙ (λ i. record { name = part_of Data v; bytes = c.in_ok-tables.ensures.body i }) in
    let five : c.new_file-5.result ≡ new_file v rows Bloom = c.new_file-5.ensures ∙ (λ i. record { name = part_of Bloom v; bytes = c.in_ok-bloom.ensures i }) in
    let six : c.new_file-6.result ≡ new_file v rows Digests = c.new_file-6.ensures ∙ (λ i. record { name = part_of Digests v; bytes = digests i }) in
    record {
      files = c.in_ok-files.ensures.items ∙ (λ i. one i ∷ two i ∷ three i ∷ four i ∷ five i ∷ six i ∷ []);
      checkpoint = c.name_of.ensures;
      digest = c.digest-digest.ensures ∙ ap sha256 (c.as_slice-6.ensures ∙ digests);
    }
