-- The fault of an opening that a fault of its store, or of its mount, is.
use Rattle.store_form.specs.declared.store.StoreFault.{StoreFault}
use Rattle.store_form.specs.declared.store.StoreFault.TheVariants as store
use Rattle.layout_mount.specs.declared.mounting.MountFault.{MountFault}
use Rattle.layout_mount.specs.declared.mounting.MountFault.TheVariants as mount
use Rattle.card_core.specs.declared.opening_faults.OpenFault.{OpenFault}
use Rattle.card_core.specs.declared.opening_faults.OpenFault.TheVariants as opening

-- the store failed, or power was lost
abbrev pub of_store : StoreFault → OpenFault
of_store store.Failed = opening.Failed
of_store store.PowerLost = opening.PowerLost

-- the memory holds no card, or failed, or power was lost
abbrev pub of_mount : MountFault → OpenFault
of_mount (mount.NotACard at) = opening.NotACard at
of_mount mount.Failed = opening.Failed
of_mount mount.PowerLost = opening.PowerLost
