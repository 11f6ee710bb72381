-- Chains of bootstrappers that stop at the last one, and whole chains for an assignment.
use Rattle.std.proofs.Common.{◌≡◌, List, [], Ok, Err, ap, subst, ◌∙◌, inr}
use Rattle.std.specs.Prelude.{Result}
use Rattle.m3_model.specs.declared.memory.Memory.{Memory}
use Rattle.boot_chain.specs.Chains.{HasStopped, after_files, after_log, after_peers, after_fresh}
use Rattle.boot_chain.specs.Origins.{claim_of, claimants_of, claims_of}
use Rattle.boot_chain.specs.Ranges.{left_of}
use Rattle.boot_chain.specs.declared.chain.Claims.{Claims}
use Rattle.boot_chain.specs.declared.origin.Origin.{Origin}
use Rattle.boot_chain.specs.declared.origin.Origin.TheVariants.{Held, Moved, First}
use Rattle.boot_chain.specs.declared.range.Range.{Range}
use Rattle.boot_chain.proofs.PartLemmas.{left_of-all, left_of-none}

-- the last bootstrapper was refused
pub last_stopped : {A B C U : Type 0} (a : A → List Range → Result (List Range) Memory → A → Type 0) (b : B → List Range → Result (List Range) Memory → B → Type 0)
    (c : C → List Range → Result (List Range) Memory → C → Type 0) (u : U → List Range → Result (List Range) Memory → U → Type 0)
    (asked files one log two peers three : List Range) (want : Memory) (old new : A × B × C × U)
    → a old.0 asked (Ok files) new.0 → one ≡ left_of asked files → b old.1 one (Ok log) new.1 → two ≡ left_of one log → c old.2 two (Ok peers) new.2 → three ≡ left_of two peers
    → u old.3 three (Err want) new.3 → HasStopped a b c u asked want old new
last_stopped a b c u asked files one log two peers three want old new by_a one_is by_b two_is by_c three_is by_u =
    let two_at : two ≡ left_of (left_of asked files) log = two_is ∙ ap (λ xs. left_of xs log) one_is in
    let three_at : three ≡ left_of (left_of (left_of asked files) log) peers = three_is ∙ ap (λ xs. left_of xs peers) two_at in
    inr (
      files,
      by_a,
      inr (
        log,
        subst (λ (xs : List Range). b old.1 xs (Ok log) new.1) one_is by_b,
        inr (peers, subst (λ (xs : List Range). c old.2 xs (Ok peers) new.2) two_at by_c, subst (λ (xs : List Range). u old.3 xs (Err want) new.3) three_at by_u),
      ),
    )

claims_are : (claims : Claims) (files log peers fresh left : List Range) → claims.files ≡ files → claims.log ≡ log → claims.peers ≡ peers → claims.fresh ≡ fresh → claims.left ≡ left
    → claims ≡ record { files = files; log = log; peers = peers; fresh = fresh; left = left }
claims_are claims files log peers fresh left is_files is_log is_peers is_fresh is_left =
    ap (λ x. record { files = x; log = claims.log; peers = claims.peers; fresh = claims.fresh; left = claims.left }) is_files
    ∙ ap (λ x. record { files = files; log = x; peers = claims.peers; fresh = claims.fresh; left = claims.left }) is_log
    ∙ ap (λ x. record { files = files; log = log; peers = x; fresh = claims.fresh; left = claims.left }) is_peers
    ∙ ap (λ x. record { files = files; log = log; peers = peers; fresh = x; left = claims.left }) is_fresh
    ∙ ap (λ x. record { files = files; log = log; peers = peers; fresh = fresh; left = x }) is_left

-- whole claims by bootstrappers that claim all or nothing
pub by_origin : (origin : Origin) (asked : List Range) (claims : Claims) → claims.files ≡ claim_of (claimants_of origin).0 asked → claims.log ≡ claim_of (claimants_of origin).1 (after_files asked claims)
    → claims.peers ≡ claim_of (claimants_of origin).2 (after_log asked claims) → claims.fresh ≡ claim_of (claimants_of origin).3 (after_peers asked claims) → claims.left ≡ after_fresh asked claims
    → claims ≡ claims_of origin asked
by_origin Held asked claims files log peers fresh left =
    let one : after_files asked claims ≡ [] = ap (left_of asked) files ∙ left_of-all asked in
    let rest : after_fresh asked claims ≡ [] = ap (λ xs. left_of (left_of (left_of xs claims.log) claims.peers) claims.fresh) one in
    claims_are claims asked [] [] [] [] files (log ∙ one) peers fresh (left ∙ rest)
by_origin Moved asked claims files log peers fresh left =
    let one : after_files asked claims ≡ asked = ap (left_of asked) files ∙ left_of-none asked in
    let two : after_log asked claims ≡ asked = ap (λ xs. left_of xs claims.log) one ∙ ap (left_of asked) log ∙ left_of-none asked in
    let taken : claims.peers ≡ asked = peers ∙ two in
    let three : after_peers asked claims ≡ [] = ap (λ xs. left_of xs claims.peers) two ∙ ap (left_of asked) taken ∙ left_of-all asked in
    claims_are claims [] [] asked [] [] files log taken fresh (left ∙ ap (λ xs. left_of xs claims.fresh) three)
by_origin First asked claims files log peers fresh left =
    let one : after_files asked claims ≡ asked = ap (left_of asked) files ∙ left_of-none asked in
    let two : after_log asked claims ≡ asked = ap (λ xs. left_of xs claims.log) one ∙ ap (left_of asked) log ∙ left_of-none asked in
    let three : after_peers asked claims ≡ asked = ap (λ xs. left_of xs claims.peers) two ∙ ap (left_of asked) peers ∙ left_of-none asked in
    let taken : claims.fresh ≡ asked = fresh ∙ three in
    claims_are claims [] [] [] asked [] files log peers taken (left ∙ ap (λ xs. left_of xs claims.fresh) three ∙ ap (left_of asked) taken ∙ left_of-all asked)
