-- When calls of a cluster may be made that keeps one placement alone.
use Rattle.std.specs.Prelude.{◌≡◌, []}
use Rattle.m3_outside.specs.declared.disk.Disk.{Ghosts}
use Rattle.cluster_members.specs.session_net.Ready.{IsReady}
use Rattle.cluster_members.specs.declared.members.Members.{Members}

abbrev pub IsReadyCluster : {D : Type 0} {G : Ghosts D} → Members D G → Type 0
IsReadyCluster m = IsReady m.net.state m.net.replicas m.net.bag × (m.past.items ≡ [])
