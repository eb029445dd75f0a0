mod MorePlaces
