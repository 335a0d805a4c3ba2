pub mod ChangedVersions
