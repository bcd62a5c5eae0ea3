-- Where the code finds that an address leads.
use Rattle.std.specs.Prelude.{◌<◌}
use Rattle.vi_history.specs.Translation.{Look, Leads as LookLeads, Nowhere as LookNowhere}
use Rattle.vi_device.specs.declared.aim.Aim.{Aim}
use Rattle.vi_device.specs.declared.aim.Aim.TheVariants.{Leads, Nowhere}

abbrev pub look_seen : Aim → Look
look_seen (Leads target flags) = LookLeads target flags
look_seen (Nowhere reason) = LookNowhere reason

-- the flags have no bit but READ and WRITE
abbrev pub HasFlags : Aim → Type 0
HasFlags (Leads target flags) = flags < 4
HasFlags (Nowhere reason) = Unit {0}
